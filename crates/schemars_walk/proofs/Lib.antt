-- Lemmas that several proofs share.
pub mod Walks
pub mod Orders
pub mod Rewrites
pub mod Parts
pub mod KeywordLaws
pub mod Changes
pub mod Boxed
mod Words
