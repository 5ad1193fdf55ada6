pub mod Agreement
pub mod OrderFree
