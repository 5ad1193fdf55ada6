-- The segments of a loop, each begun with what the one before it handed on, come to what the whole loop
-- comes to (`together` in SplitLaws). Two runs of the body go side by side: that of the whole loop, and
-- that of a segment whose reduced lets began with the neutral value. The invariant is that the words of
-- the whole loop are those before the segment, combined with those of the segment (`combined_words`).
--   MarkLaws     the classes of the lets allow each use of them in the body (`classes_allow`)
--   WordLaws     reading and assigning as a class allows keeps the invariant, word by word
--   ActLaws      so a body does (`Steady`, by induction over statements), and so a loop (`loop_steady`)
--   SplitLaws    one segment more (`goes_on`), what the loop leaves in the lets (`left`), all segments
--   TypedLaws    what a typed program says of its dense block
--   EmitLaws     the slots to which a body emits, for the walk over it
pub mod ActLaws
pub mod EmitLaws
pub mod MarkLaws
pub mod SplitLaws
pub mod TypedLaws
pub mod WordLaws
