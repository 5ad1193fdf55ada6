pub mod Filled
pub mod Findings
pub mod Parsed
pub mod Scopes
pub mod Tables
pub mod Typing
