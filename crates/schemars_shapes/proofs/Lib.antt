pub mod FieldLemmas
pub mod EqualEntries
pub mod SelfEqual
pub mod Copies
pub mod Units
pub mod FieldRows
pub mod VariantNumbers
mod Words
