pub mod DigitLaws
pub mod WordsLaws
pub mod WritesLaws
