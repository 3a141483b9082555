-- The definitions that the laws cite.
pub mod Everywhere
pub mod Names
pub mod Classes
pub mod Paths
pub mod Stages
pub mod Laws
pub mod Words
