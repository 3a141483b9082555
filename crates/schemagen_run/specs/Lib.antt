-- The definitions that contracts cite.
pub mod Fault
pub mod Run
pub mod CommandLine
pub mod Writing
pub mod Promises
pub mod Output
pub mod Vocabulary
