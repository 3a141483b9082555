-- The definitions that contracts cite.
pub mod Meant
pub mod Texts
pub mod Groups
pub mod Words
