pub mod StatementMarks
pub mod SightLaws
pub mod Rules
pub mod MarkLaws
pub mod ClassLaws
