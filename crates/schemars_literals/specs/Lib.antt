-- The definitions that contracts cite.
pub mod Keys
pub mod Kinds
pub mod Limits
pub mod Literals
pub mod Words
