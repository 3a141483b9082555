-- The definitions that contracts cite.
pub mod Forms
pub mod Shapes
pub mod Errors
pub mod Words
