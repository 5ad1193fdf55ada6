pub mod FrameLaws
mod Quotients
pub mod RunLaws
