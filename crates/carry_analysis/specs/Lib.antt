pub mod Classes
pub mod Walks
