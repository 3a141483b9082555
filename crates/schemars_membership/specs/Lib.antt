-- The definitions that contracts cite.
pub mod Membership
pub mod Words
