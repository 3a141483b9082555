-- The definitions that contracts cite.
pub mod Text
pub mod OrderedText
pub mod Document
pub mod Sink
pub mod Target
pub mod Gathered
pub mod Sent
pub mod Refusals
pub mod Output
pub mod Places
pub mod Words
