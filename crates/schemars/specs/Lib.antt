-- What implementations of `JsonSchema` cite.
pub mod Words
