-- Lies: what a lying machine tells. LieLaws: it keeps what every kind of machine keeps.
pub mod Lies
pub mod LieLaws
