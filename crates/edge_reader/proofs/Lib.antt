pub mod WordLaws
pub mod LineLaws
pub mod EntryLaws
pub mod GatherLaws
pub mod UnitLaws
pub mod PlainLaws
pub mod ShortLaws
