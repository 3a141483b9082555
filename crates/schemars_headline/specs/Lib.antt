pub mod State
pub mod Headline
pub mod Calls
pub mod Drafts
pub mod Inlined
pub mod Needed
pub mod Same
pub mod Taken
