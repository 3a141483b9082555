-- The lemmas of the proofs.
pub mod Bounds
pub mod RowByRow
pub mod TableMembers
pub mod Written
pub mod LibraryShapes
mod Examples
mod WrittenExamples
mod Samples
mod SampleJson
pub mod AsRead
mod Roots
pub mod OneMember
pub mod OtherKinds
pub mod Gathering
mod Words
