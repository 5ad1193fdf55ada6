pub mod Expressions
pub mod Notions
pub mod Refusals
