pub mod Annotating
pub mod Texts
pub mod Templates
pub mod Items
pub mod Answering
mod Words
