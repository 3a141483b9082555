pub mod Flatten
pub mod FlattenLaw
pub mod Opening
pub mod Parts
pub mod Words
