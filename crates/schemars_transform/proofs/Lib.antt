-- Lemmas that several proofs share.
mod BuiltInExamples
pub mod Moves
pub mod Names
mod UnevaluatedExamples
pub mod Gathering
pub mod Through
pub mod Items
pub mod Texts
pub mod Lists
pub mod Laws
pub mod Asking
pub mod Idle
pub mod IdleTransforms
pub mod Seen
pub mod Replaced
pub mod Turns
pub mod Parted
pub mod Taken
mod Words
