-- Lemmas that several proofs share.
pub mod KeyOptions
pub mod EnumsWithin
pub mod FieldMembers
pub mod Members
pub mod Offers
pub mod Rows
pub mod Fitting
pub mod Variants
mod Words
