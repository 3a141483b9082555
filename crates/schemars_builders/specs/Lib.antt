-- The definitions that contracts cite.
pub mod AllowNull
pub mod NullLaw
pub mod Properties
pub mod Variants
pub mod Documentation
pub mod Keywords
pub mod Pattern
pub mod Words
