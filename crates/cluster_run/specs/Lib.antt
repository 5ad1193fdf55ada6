pub mod Choices
pub mod Driven
pub mod Faults
pub mod Laws
pub mod Ready
pub mod Sends
