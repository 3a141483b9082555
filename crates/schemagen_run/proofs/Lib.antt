-- The lemmas of the proofs.
pub mod Results
pub mod Tables
pub mod Runs
pub mod Asking
pub mod Samples
pub mod Writing
mod Outputs
mod Vocabulary
