pub mod Spelling
pub mod Judgement
pub mod Reading
pub mod Laws
pub mod States
