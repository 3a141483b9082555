pub mod ByName
pub mod Floats
pub mod JoinedTexts
pub mod JsonValues
pub mod EntryEdits
pub mod KeyOrder
pub mod Keys
pub mod Members
pub mod ReadBack
pub mod Rearranged
mod Words
