-- Lemmas that several proofs share.
pub mod NullKeywords
pub mod NullMembers
pub mod Nulls
pub mod LiteralNulls
mod Examples
pub mod Escapes
pub mod Headings
mod Words
