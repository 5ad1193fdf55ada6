pub mod Combine
pub mod Filled
pub mod Laws
pub mod Mergeable
pub mod Partials
