pub mod Finished
pub mod Template
pub mod Nodes
pub mod View
pub mod Words
