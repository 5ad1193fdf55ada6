-- The order of events in a run, whatever the messages say.
--
-- The claim: in every state that possible events leave, from the usual first state or from the begin of a round
-- whose mode is known, for 1 to 64 machines and whatever the judges rule of what they may rule, each message under
-- way can be taken, and some event is possible until the run is finished; each event lessens what is left; a
-- finished run has nothing under way, and as many events as the table of actions says.
--
-- The invariant (`Settled`, in Settled). Each spot has a place on one line of numbers, 256 to a round.
-- By places (`Fits`, in Kept): what was needed at a place that its machine has passed was sent. What was sent is
-- under way or taken, until its receiver has left its round. What is under way was sent, to a machine that isn't
-- over, stands in its round and not past its need, and hasn't taken it. What was taken was sent, and its receiver
-- has reached its round. Nobody is past a machine that is over.
-- By rulings (`Rules`): machine 0 stands in a round that was ruled to be, or is over in one that was ruled not to
-- be; a verdict of a stop is the last that it sends, and ends its receiver. Each name is under way once.
-- Which messages a round has depends on its mode, and that of a later round isn't known. So the first part holds
-- for every function of modes, none of them a stop, that agrees with the rulings made; a judge narrows these.
--
-- The way, from below. Of circulant_plan: `acts` (no action passes a spot of its machine, in ActionLaws), and
-- `need_is_name`, `gift_is_name` and `name_is_gift` (what spots need and send are the names, in NameLaws).
-- `progress`, `goes_keeps`, `takes_keeps` (Kept): over numbers alone.
-- `together`, `zero_from`, `ruled_at` (Lockstep): who is inside a round finds everybody in it, and it was ruled.
-- `first_settles` (FirstSettles), `go_settles` (GoSettles, with GoFacts), `take_settles` (TakeSettles): kept by each
-- event; `reached_settles` (ReachedSettles): so it holds of every reached state.
-- `takeable_at` (RoundLaws), `few_under_way` (FewLaws), `some_moves` (MoveLaws), `nearer` (NearerLaws), `bounded`
-- (BoundLaws), `choices_are` (ChoiceLaws), `is_least` (LeastLaws): the laws, each a clause by OrderLaws.
-- Counts: `does` (WeightSteps, over Weights) says that an action adds its spot's weight to what its machine has
-- done; `gone_tally` (CountKept, over Totals) and `took_tally` (CountTaken) sum up; `counted` (RunCounts) ends it.
-- Standings has where machines stand, as a list, NamesInOrder names put in order, WorkedRows some runs counted out.
pub mod BoundLaws
pub mod ChoiceLaws
pub mod CountKept
pub mod CountTaken
pub mod FewLaws
pub mod FirstSettles
pub mod GoFacts
pub mod GoSettles
pub mod Kept
pub mod LeastLaws
pub mod Lockstep
pub mod MoveLaws
pub mod NamesInOrder
pub mod NearerLaws
pub mod OrderLaws
pub mod ReachedSettles
pub mod RoundLaws
pub mod RunCounts
pub mod Settled
pub mod Standings
pub mod TakeSettles
pub mod Totals
pub mod WeightSteps
pub mod Weights
pub mod WorkedRows
