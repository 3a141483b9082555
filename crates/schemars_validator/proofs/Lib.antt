-- Lemmas that several proofs share.
pub mod Pairs
mod Words
