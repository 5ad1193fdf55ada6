pub mod Printing
pub mod ReadLaws
pub mod Rows
pub mod TypedLaws
