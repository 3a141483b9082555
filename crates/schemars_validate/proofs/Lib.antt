-- Lemmas that several proofs share.
pub mod Marking
pub mod Resolving
pub mod Readings
pub mod MarkedAlike
pub mod OneSchema
pub mod Contained
pub mod Conditions
pub mod JudgedInside
pub mod JudgedBeside
pub mod PartsLeft
pub mod Joining
pub mod Measures
pub mod Stepping
pub mod KeptVerdicts
pub mod FirmJudges
pub mod FirmSays
pub mod FirmMarks
pub mod MoreReferences
pub mod Keeping
pub mod Recalling
pub mod Uniting
pub mod PartsKnown
pub mod Chaining
mod Words
