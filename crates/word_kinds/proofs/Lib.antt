-- FitLaws has what the walk over the literals of a program needs (`literals_are_words`).
pub mod FitLaws
