pub mod Events
pub mod Reads
pub mod Rounds
pub mod Tables
pub mod Writes
