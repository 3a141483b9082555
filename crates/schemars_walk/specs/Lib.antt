-- The definitions that contracts cite.
pub mod Walk
pub mod Order
pub mod Parts
pub mod Rewritten
pub mod Words
