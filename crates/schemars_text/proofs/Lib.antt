-- Lemmas that several proofs share.
pub mod Members
pub mod Lists
pub mod Outputs
pub mod OrderedTexts
pub mod FixedMembers
pub mod Becomings
pub mod Begun
pub mod Escapes
mod Words
