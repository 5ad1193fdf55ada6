pub mod Keys
pub mod Images
pub mod Judgement
pub mod Laws
