pub mod PlaceLaws
pub mod BufferLaws
pub mod NeedLaws
