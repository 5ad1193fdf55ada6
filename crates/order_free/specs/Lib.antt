pub mod Fixed
pub mod Forms
pub mod Emits
pub mod Free
