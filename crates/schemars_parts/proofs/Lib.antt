-- Lemmas of parts: what they stand for, and how they are put in order, changed and written.
pub mod Changed
pub mod Entries
pub mod Lists
pub mod NullNames
pub mod PartViews
pub mod PutInOrder
pub mod Rules
pub mod Searched
pub mod Taken
pub mod Wholes
pub mod Written
mod Words
