-- Small laws that several crates of machines cite.
--
-- Options: what is there, by its test. Letters: messages put among others, bodies dropped, names told apart. Rulings:
-- the round of a standing. Carries: the words that a loop hands on. Words: the bytes of a number. Sums: a sum by its
-- first term.
pub mod Options
pub mod Letters
pub mod Rulings
pub mod Carries
pub mod Words
pub mod Sums
