-- Lemmas that several proofs share.
pub mod OfKind
pub mod Types
pub mod ListedTexts
mod Words
