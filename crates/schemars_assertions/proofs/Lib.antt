-- Lemmas that several proofs share.
pub mod Lists
pub mod Order
pub mod Counts
pub mod Texts
pub mod Held
mod Words
