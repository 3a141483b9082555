-- The definitions that contracts cite.
pub mod Built
pub mod Nullable
pub mod Unevaluated
pub mod Formats
pub mod Inner
pub mod Member
pub mod BuiltIn
pub mod Needs
pub mod Apart
pub mod Words
