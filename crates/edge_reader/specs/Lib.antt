pub mod EdgeList
pub mod Words
pub mod Lines
pub mod EdgeText
pub mod EdgePairs
pub mod Gives
