pub mod EdgeLemmas
pub mod Names
pub mod Joined
pub mod TableLemmas
pub mod Extensions
pub mod Registered
pub mod Times
pub mod Accepted
pub mod Copies
pub mod Within
mod MeaningExamples
mod DecimalExamples
pub mod Texts
pub mod Adding
pub mod Asked
mod Ascending
pub mod Settling
pub mod Further
pub mod Options
pub mod Shapes
mod Examples
mod Words
