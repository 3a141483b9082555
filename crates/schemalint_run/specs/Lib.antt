-- The definitions that contracts cite.
pub mod Lint
pub mod Words
