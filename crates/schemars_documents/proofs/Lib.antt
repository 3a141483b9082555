pub mod OpenStructs
pub mod Literals
pub mod Units
pub mod Flattening
mod Words
