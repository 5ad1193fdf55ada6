-- A run over links is told as a run of machines is, event by event.
--
-- The claim. `record_lossy` plays the events that a seed draws over links, adds each to the text of
-- form 3 before its line is put, and keeps the text behind the last one; where they don't come to
-- the end before the text would pass its limit, the lines of the events added stand and nothing is
-- kept. `follow_links` plays the events of such a text as far as they can happen. Both are courses
-- of the telling of links (`by_links`, in specs/LinkTellings), so the laws of recorded and followed
-- runs of machine_runs hold of them.
--
-- The invariant is theirs: with what was put so far, what the events from here on leave of the
-- outside is what all of them leave from the first state on. That there are such events: from each
-- state some list is drawn, up to the end or past the limit of a text (`far`, in FarLaws), for each
-- event makes the text longer.
--
-- The chain. LinkedLaws: what an event puts is by definition (`link_round_is`), and so are
-- recordings and followed texts as wholes (`lossy_runs`, `linked_follows`). WantLaws: memory may be
-- wanting before the first event. OneLaws: what a seed draws goes one way (`one_drawn`); that a
-- text of form 3 tells one run or has one fault is LinkTextLaws of link_core. OverPlain: where no line
-- of an event is asked for, what is put is what the plain part puts (`recorded_over_plain`,
-- `followed_over_plain`). SourceLinkLaws: of cores it is what the source's run tells.
pub mod FarLaws
pub mod LinkedLaws
pub mod OneLaws
pub mod OverPlain
pub mod SourceLinkLaws
pub mod WantLaws
pub mod WritingLaws
