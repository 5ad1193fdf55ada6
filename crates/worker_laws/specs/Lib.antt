pub mod Alone
pub mod Chunks
