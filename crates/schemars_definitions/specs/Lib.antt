-- The definitions that contracts cite.
pub mod Entries
pub mod Keys
pub mod Kept
pub mod Texts
pub mod Joined
pub mod Whole
pub mod Words
