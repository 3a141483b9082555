-- The definitions that contracts cite.
pub mod BorrowedValue
pub mod Members
pub mod Words
