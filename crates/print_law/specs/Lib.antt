pub mod Layout
pub mod Law
