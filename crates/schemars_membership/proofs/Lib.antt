-- Lemmas that several proofs share.
pub mod Deciding
mod Words
