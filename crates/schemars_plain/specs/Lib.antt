-- The definitions that contracts cite.
pub mod OneValue
pub mod Said
pub mod Words
