pub mod Beginning
pub mod Counts
pub mod Gifts
pub mod Going
pub mod Halves
pub mod Kept
pub mod Plain
pub mod Working
