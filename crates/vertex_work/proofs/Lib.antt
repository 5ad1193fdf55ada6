-- What code does at one own vertex is what the definitions of a machine say of it.
--
-- Where things stand. The degrees of the chunks stand one chunk after another, each by ascending id (KnownLaws); a
-- list of vertices is cut at two numbers (ListLaws); each pushed edge leads to an own vertex (ReceiverLaws). PassLaws:
-- a pass over a list that puts a new element into each place. FirstLaws: the environment of a row before round 1.
--
-- Pushes. An environment keeps the numbers of its round (`settled`) while its receivers run. The chain:
--   EmissionLaws, StoreLaws   emissions to slots leave the other partials as they were, and are written to their place
--   PushLaws    `edge_worked`: what one edge adds; `IsAdding`: the edges left, over the partials so far, come to the
--               same as all edges over those at first
--   SenderLaws  `by_senders`: edges in order are worked sender by sender, and one that sends nothing changes nothing
--   ToldLaws    `telling_all`: what a push tells (`IsTelling`, by senders left and sends read)
--   OwnLaws     `sending_all`: what own vertices send to one another (`IsSending`)
--   MergeLaws   `merged_told`: an update goes to those own vertices that are told of, under the key of its step
--
-- Scans. StepLaws: the names and widths of a segment of the loop, and that it leaves the numbers of the round alone.
-- VertexLaws: `stays`, where the loop broke before or the test is false; `runs_on`, where a segment runs: the state
-- handed on, what was emitted, and how many members were read are those of `scanned`. VisitLaws: operands of lets.
--
-- The end of a round. TailLaws: the tail runs with the lets closed over what the ring handed on (`tail_ran`).
-- EndingLaws: `tail_taken` puts it into the slots' partials, `update_ran` and `row_written` make the new row.
pub mod EmissionLaws
pub mod EndingLaws
pub mod FirstLaws
pub mod KnownLaws
pub mod ListLaws
pub mod MergeLaws
pub mod OwnLaws
pub mod PassLaws
pub mod PushLaws
pub mod ReceiverLaws
pub mod SenderLaws
pub mod StepLaws
pub mod StoreLaws
pub mod TailLaws
pub mod ToldLaws
pub mod VertexLaws
pub mod VisitLaws
