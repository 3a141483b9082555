-- The definitions that contracts cite.
pub mod Accepted
pub mod Example
pub mod SampleJson
pub mod SampleSchema
pub mod Words
