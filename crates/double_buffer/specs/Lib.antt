pub mod Taking
pub mod Places
pub mod Held
pub mod Laws
