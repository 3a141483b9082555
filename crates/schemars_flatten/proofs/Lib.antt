-- Lemmas that several proofs share.
mod FlattenExamples
pub mod Parts
pub mod Lookups
pub mod PutIn
pub mod Verdicts
pub mod Law
pub mod Levels
pub mod ClosedCalls
pub mod Unchanged
pub mod UnitObjects
pub mod Lists
pub mod Optional
pub mod Stays
pub mod Schemas
pub mod Kept
pub mod Floats
pub mod References
mod PartExamples
mod Words
