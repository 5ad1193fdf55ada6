-- The machine with a stack does what the list of instructions means.
--
-- The claim. `step_block` leaves the environment, the emissions and the end that the code of its
-- block means, and `step_segment` those of the loop body over the neighbours that a feed gives, up
-- to a break; and the feed has then given exactly the neighbours that were read (`Fed`, in
-- specs/Segments). Nowhere does the stack run below its bottom or above 64 words, and no name of a
-- list is missing.
--
-- The invariant of a run. The list that is left from the place on is entered at the height of the
-- stack (`IsEntered`, in specs/Steps), so each instruction finds its operands and room for its
-- value and jumps ahead only, and what is left to run, with the partials that stand now, ends as
-- the whole does with those at first (`SameEnd`, in specs/Ends). Of the loop: what is left of the
-- neighbours ends as all of them do, and what the feed gave so far, with what is still read, is
-- what the whole loop reads (`Feeding`, in SegmentLaws).
--
-- The chain. StepLaws: a level list gives its first instruction what it needs (`can_step`,
-- `can_at`), a step leads to a place where the list is level again (`step_goes`, `goes_at`), and a
-- step with what is left behind it is what was left before (`step_at`); the lists of a valid code
-- are entered with an empty stack (`code_entered`). NextLaws says the same of the stack,
-- environment and partials as the code leaves them (`next_ends`, `next_entered`, `next_within`),
-- and of a load whose value the next instruction takes at once (`load_is`). EndLaws: runs that end
-- alike, one after another (`SameEnd-trans`, `going_ends`, `broke_ends`). SegmentLaws: one turn of
-- the loop over neighbours (`turn_is`, `going_reads`, `broke_reads`), and one more that the feed
-- gave (`feeding_more`, `fed_of`).
pub mod EmitLaws
pub mod EndLaws
pub mod NextLaws
pub mod SegmentLaws
pub mod StepLaws
