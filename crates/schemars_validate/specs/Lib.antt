-- The definitions that contracts cite.
pub mod Schemas
pub mod Judged
pub mod Joined
pub mod Parts
pub mod Words
pub mod Memos
pub mod Chains
