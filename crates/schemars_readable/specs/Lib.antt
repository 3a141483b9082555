-- The definitions that contracts cite.
pub mod Drafts
pub mod Translation
pub mod Standing
pub mod Following
pub mod Forms
pub mod Unread
pub mod Expressions
pub mod Refused
pub mod Words
