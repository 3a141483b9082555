pub mod Unplaced
mod Views
mod Members
mod Forms
pub mod Choices
mod Listed
mod Characters
pub mod Accepting
mod Seen
mod Parts
pub mod Results
mod Words
