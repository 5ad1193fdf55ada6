pub mod Frames
pub mod Inside
pub mod Jobs
pub mod Laws
pub mod Lists
pub mod Told
pub mod Views
