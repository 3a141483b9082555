-- The lemmas of the proofs.
mod Judged
pub mod Ended
mod Words
