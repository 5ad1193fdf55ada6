-- In each world that possible events leave, the laws of the order of events hold, for machines of
-- any kind.
--
-- The claim. `Cluster` plays exactly the step of the definition where an event is possible, else it
-- says why and changes nothing, unless want of memory ends it (`event`); it counts, finds and names
-- the choices and what is missing as the definitions do. Of each world that possible events leave,
-- from the first one or from one at the begin of a later round: the receiver of a message under way
-- can take it, what a ready machine sends has new names and room, each event lessens what is left,
-- some event is possible until the run is finished, and then none is and nothing is under way
-- (`worlds_are_in_order`); the choices are exactly the possible events, each once, and the plain
-- ones lead to the end (`choices_are_in_order`).
--
-- The invariant. A world and a skeleton, which is the order of events with no contents, stand alike
-- (`IsSkeletonOf`, in Worlds): each machine has its part, its number and the program, and stands at
-- the spot of the skeleton; it holds the names that the skeleton has taken of its round for it; its
-- ruling is the one that was made, where it knows it; the names under way are the same and ascend;
-- the body of each of them fits its form at the receiver, and a verdict tells the ruling. `IsTied`
-- (ReachedWorlds) adds that the skeleton is one that possible events leave. What `skeleton_laws`
-- proves of such skeletons holds so of the world. Of a kind of machine nothing is used but
-- `IsLawful` of symple_face, and `IsRestartLawful` where a run goes on from a start.
--
-- The chain. LetterLists, SiteLists, ActionTables, NextStandings, PartsAt: messages among others, a
-- machine put in a list, what the table of actions says of the names at a spot, which standing
-- comes behind an action, the part of each place. Both first worlds stand as their skeletons do
-- (`first_tied`, `restarted_tied`, in FirstWorlds; `is_restarted`, in Restarted, by parts as
-- PartLists has them). An action keeps it (`gone_tied`, in GoWorlds), and so does a take
-- (`gone_tied`, in TakeWorlds). So each reached world is tied (`reached_ties`, in ReachedWorlds).
-- ReachedWorldLaws draws the laws of worlds from it; ChoicesAlike and WorldChoices those of choices
-- (`are_choices`, `goes_on`, `plain_ends`).
--
-- The code. MachineMoves: what one event does to a list of machines. PlayedEvents: what it leaves
-- is the step, reached, and nearer to the end (`go_done`, `take_done`). ChoiceLists: the goes and
-- behind them the takes, by their places; the flags kept beside the machines are those of the ready
-- ones.
pub mod LetterLists
pub mod ActionTables
pub mod SiteLists
pub mod NextStandings
pub mod Worlds
pub mod PartsAt
pub mod GoWorlds
pub mod TakeWorlds
pub mod FirstWorlds
pub mod ReachedWorlds
pub mod ReachedWorldLaws
pub mod MachineMoves
pub mod PlayedEvents
pub mod Restarted
pub mod PartLists
pub mod ChoiceLists
pub mod ChoicesAlike
pub mod WorldChoices
