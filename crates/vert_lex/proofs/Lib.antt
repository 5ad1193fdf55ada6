pub mod Longest
pub mod Passing
pub mod Judging
