-- The definitions that contracts cite.
pub mod Answer
pub mod Rendered
pub mod Words
