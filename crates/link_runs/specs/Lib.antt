pub mod LinkedEvents
pub mod LinkedPlays
pub mod LinkTellings
pub mod SourceLinks
pub mod Writing
