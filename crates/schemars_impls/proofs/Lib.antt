pub mod Keeping
pub mod Placing
pub mod Following
pub mod Registering
pub mod Composing
pub mod OwnRows
pub mod Noting
pub mod OwnTypes
mod Words
