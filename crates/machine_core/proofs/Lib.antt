-- A core is a lawful machine, and its work is `core_work`: each event leaves the state that the definitions leave.
--
-- The invariant is `core_sound` of the core as plain data (`core_state`, in specs/CoreState), with how wide its
-- tables are (`AreWide`), that what it holds is of its round (`IsBuffer`), and that its counts stand beside targets
-- (`AreCounts`). An action is first what its spot does (`acted`), and then the way on to the next spot (`onward`).
--
-- SoundLaws: the numbers of a sound state (`steady`): how many rows, partials and ring states, and how wide each is.
-- FreshLaws: a machine just made has read nothing. StartLaws: one that begins at a later round.
-- GoLaws: what the action leaves goes on to what the work says (`go_from`), a sound state to a sound one
--   (`gone_sound`, `begun_sound`), and the buffer to that of the next spot (`moved_buffer`).
-- HalfActs: a scan of a half: what it sends (`half_sends`), leaves (`read_goes`, `kept_goes`) and needs
--   (`dep_fits`).
-- CloseStates: a state with what the close leaves is the closed one.
-- SumLaws: tally by tally (`left_more`); the sums stay low (`sums_low`), so none wraps. TotalsLaws: how many totals.
-- TakeLaws: a message that can be taken can be held (`can_put`), and what is held then is of the round (`joined`).
-- The answers under machine/Core put these to each action and each take.
pub mod CloseStates
pub mod FreshLaws
pub mod GoLaws
pub mod HalfActs
pub mod SoundLaws
pub mod StartLaws
pub mod SumLaws
pub mod TakeLaws
pub mod TotalsLaws
