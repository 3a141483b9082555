pub mod OwnTypes
