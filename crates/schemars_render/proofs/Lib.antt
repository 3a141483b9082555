-- Lemmas of how a template is filled with parts.
pub mod FilledMembers
pub mod Items
mod Words
