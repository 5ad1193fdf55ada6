pub mod Bytes
pub mod Calls
pub mod Causes
pub mod Files
pub mod Room
pub mod Pieces
pub mod Shelves
