pub mod BitLaws
pub mod UpdateLaws
pub mod MessageLaws
pub mod BoundLaws
pub mod PlanLaws
