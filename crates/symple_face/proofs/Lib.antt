pub mod LimitLaws
pub mod ListLaws
pub mod PartLaws
pub mod PlanLaws
pub mod TableLaws
pub mod ChunkLaws
pub mod ShapeLaws
