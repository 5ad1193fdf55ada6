pub mod Chunks
pub mod Bounds
