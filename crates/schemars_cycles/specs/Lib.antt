pub mod Walks
pub mod Search
pub mod Words
