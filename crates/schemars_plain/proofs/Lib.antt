pub mod EnumsWithin
pub mod Flattened
pub mod Literals
pub mod Named
pub mod Said
mod Words
