pub mod GraphLemmas
pub mod Reaching
pub mod Heights
mod Words
