-- The lemmas of the proofs.
pub mod Members
pub mod Reading
mod Words
