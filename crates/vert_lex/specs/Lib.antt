pub mod Places
pub mod Tokens
pub mod Text
pub mod View
