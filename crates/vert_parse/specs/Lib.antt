pub mod Entered
pub mod Idents
pub mod Names
pub mod Parsing
pub mod Numbers
