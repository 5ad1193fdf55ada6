pub mod Continued
pub mod Loops
pub mod Segments
pub mod Shown
