-- The definitions that contracts cite.
pub mod Input
pub mod Written
pub mod Listing
pub mod SampleInput
pub mod Texts
pub mod Tokens
pub mod Gathered
pub mod Words
