pub mod ScheduleTexts
pub mod Says
pub mod LineReading
pub mod Records
pub mod Choosers
pub mod Laws
