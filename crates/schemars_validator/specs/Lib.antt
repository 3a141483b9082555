-- The definitions that contracts cite.
pub mod Texts
pub mod Asked
pub mod Words
