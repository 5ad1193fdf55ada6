-- The edges that are pushed one by one are those that the words are (DrawnLaws).
pub mod DrawnLaws
