-- Lemmas that several proofs share.
pub mod Sets
pub mod Translated
pub mod Following
pub mod Telling
pub mod Elements
pub mod Refusing
mod Examples
mod Words
