pub mod ReachLaws
pub mod EndLaws
pub mod BoundLaws
pub mod ChunkLaws
