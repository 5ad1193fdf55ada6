pub mod CoreServing
pub mod Parting
pub mod PartWalks
pub mod Serving
