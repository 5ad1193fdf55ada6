-- What machines tell as they play, event by event, is what a run puts.
--
-- The claim. Whoever chooses the events, each is played behind its own line and before the lines of
-- the round that it ends, and at the end the table is put (`play_event`, `play_out`, `put_table`).
-- What a run tells is a value of its own (`Telling`, in specs/Tellings): a line for each event, the
-- lines of its round, the table, why an event can't happen, and what is lacking at the end.
-- Recorded and followed runs are courses of any such telling, so they are proved once for machines
-- of any kind, for the source's run and for runs over links.
--
-- The invariant: with what was put so far, what the events from here on leave of the outside is
-- what all of them leave from the first state on (`LeadsOn`, in specs/PlainPlays; of recordings and
-- followed texts specs/RecordWalks and FollowWalks).
--
-- The chain. PlayLaws: one put (`put_goes`, `put_stops`), one event (`event_goes`, `event_stops`),
-- the end (`table_goes`), and the whole (`run_plays`). RecordLaws and FollowLaws: the same of an
-- event that is added to a text first, or that a text gives. The machines are those of the graph's
-- parts (PartsFrom), and the first worlds of one program on one graph are one (`first_same`, in
-- FirstLaws). The texts of rows, rounds and reads that are put piece by piece are those by
-- definition: NumberedLaws, RoundLaws, ReadTurns (what the machines of the steps read of a vertex)
-- and WorldLaws (what a world shows of its machines).
--
-- Two tellings that go alike make one course (`followed_alike`, in TellingLaws). At each world that
-- goes with the source's run, cores tell what that run and the order of events tell, refusals and
-- all (`first_goes`, in SourceFollows, over schedule_laws), so of cores each course is told by the
-- source (`recorded_told`, `followed_told`, `plain_told`, `drawn_told`).
pub mod FirstLaws
pub mod FollowLaws
pub mod NumberedLaws
pub mod PartsFrom
pub mod PlayLaws
pub mod ReadTurns
pub mod RecordLaws
pub mod RoundLaws
pub mod SourceFollows
pub mod TellingLaws
pub mod TextLaws
pub mod WorldLaws
