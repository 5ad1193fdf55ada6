-- Each step of a machine does what the definitions of its work say, for every body that fits, honest or not.
--
-- What is laid flat is told by what a state shows (`Shows` of `vertex_work`): the contract of a step speaks of each
-- state that shows what the step was given. A loop over vertices carries one invariant: what is left from here on,
-- over what stands so far, comes to the same as all over what stood at first.
--
-- The begin. BlankLaws: what stands before a round. ChunkSenders: the vertices of a chunk that send over edges to own
-- ones. WorkedLaws: receivers see what a core sees of its own vertices (`shown_works`), so what they emit is what its
-- work says (`works_edges`). WorkingLaws: what own vertices send (`own_worked`), and what a push tells
-- (`chunk_worked`). KeptLaws: kept pushes machine by machine (`begun`). DropLaws, HeldLaws: their bodies are dropped.
-- GiftLaws: what is sent at the begin (`dense_sent`, `sparse_sent`).
--
-- A scan of a half. PlaceLaws: where the targets of a chunk and of a half stand (`mirrors_stand`). HalfLaws: the own
-- vertices, the loop and the states that came. SightLaws: what is seen (`own_shown`, `mirrors_shown`). The chain:
--   ScanLaws      a vertex is entered as it is seen, and what is scanned there is what is scanned at its vertex
--   WalkLaws      one vertex after another (`Walking`): states, counts, and what is sent or merged
--   OnceLaws      vertices that stand once are scanned each from the state that came
--   ScanToldLaws  of another chunk: the update, the states and the counts that are told (`update_is`, `dep_is`,
--                 `reads_are`)
--   KeepLaws      of the own chunk: the partials, the states and the counts that are kept (`partials_are`,
--                 `half_are`, `reads_kept`)
--   NoteLaws      counts noted beside targets are the sources read; ReadingLaws finds those of a vertex
--
-- The close. CloseLaws: one own vertex after another, and one at rest keeps its row (`resting_row`). AlikeLaws,
-- ClosedLaws: the pass saw what the state shows, so its rows are those of the close (`pass_closed`). CloseNeeds: what
-- a sound state has at a close.
--
-- The pieces of a judge. CountedLaws: counts and totals of the own vertices. JudgeLaws: one tally more, the verdicts
-- for all others, and the stop test, which looks at no vertex (`rules_anywhere`).
pub mod AlikeLaws
pub mod BlankLaws
pub mod ChunkSenders
pub mod CloseLaws
pub mod CloseNeeds
pub mod ClosedLaws
pub mod CountedLaws
pub mod DropLaws
pub mod GiftLaws
pub mod HalfLaws
pub mod HeldLaws
pub mod JudgeLaws
pub mod KeepLaws
pub mod KeptLaws
pub mod NoteLaws
pub mod OnceLaws
pub mod PlaceLaws
pub mod ReadingLaws
pub mod ScanLaws
pub mod ScanToldLaws
pub mod SightLaws
pub mod WalkLaws
pub mod WorkedLaws
pub mod WorkingLaws
