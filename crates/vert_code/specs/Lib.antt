pub mod Blocks
pub mod Listing
pub mod Machine
pub mod Valid
