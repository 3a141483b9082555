pub mod Documents
pub mod PlainTable
pub mod Basis
pub mod OfShape
pub mod Describes
pub mod Words
