-- The parts of a graph, made in one pass, are its parts by definition.
--
-- The claim: `parts` answers `parts_of` of the table's graph (GraphLaws), each edge stands in the lists of one machine
-- (EdgeLaws), the vertices that a machine knows ascend (AscendLaws), and weights fit as they do in the table
-- (WeightLaws).
--
-- The chain. The edges are dealt out in the table's own order, each to the list of its owner (DealLaws, OwnerLaws,
-- ShareLaws), and so each list is a filter of that order (PartsMade, `part_made`). What a machine tells from its own
-- edges, its mirrors and whom it tells what, is what it is in the whole graph (PartLaws): since ids that are sorted
-- and without repetition are those that occur, in order (MetLaws), and two orders of some edges leave them as they
-- were (MovedLaws, OrderPermutations). Lists are cut where chunks end (SplitLaws); RangeLaws has what loops over
-- ranges have still to do, DegreeLaws and ChosenLaws the degrees.
pub mod ChosenLaws
pub mod DealLaws
pub mod OwnerLaws
pub mod ShareLaws
pub mod MetLaws
pub mod OrderPermutations
pub mod MovedLaws
pub mod WeightLaws
pub mod PartLaws
pub mod RangeLaws
pub mod SplitLaws
pub mod PartsMade
pub mod DegreeLaws
pub mod EdgeLaws
pub mod GraphLaws
pub mod AscendLaws
