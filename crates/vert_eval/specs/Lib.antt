pub mod Frames
pub mod Rounds
pub mod Runs
pub mod SourceRun
pub mod Splits
pub mod Values
pub mod Words
