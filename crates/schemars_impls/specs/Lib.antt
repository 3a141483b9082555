-- The definitions that contracts cite.
pub mod Keeps
pub mod Describes
pub mod Dictionary
pub mod Containers
pub mod OwnRows
pub mod Fields
pub mod Notes
pub mod Floats
pub mod Zoned
pub mod Words
