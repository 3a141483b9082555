-- The definitions that contracts cite.
pub mod Assembled
pub mod Changing
pub mod Searched
pub mod Writing
pub mod Words
