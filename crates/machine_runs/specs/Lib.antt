pub mod FollowWalks
pub mod PlainPlays
pub mod PlayedEvents
pub mod RecordWalks
pub mod RunParts
pub mod SourceTellings
pub mod Tellings
