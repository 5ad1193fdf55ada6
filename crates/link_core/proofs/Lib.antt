-- Over links that lose and repeat, machines go as they do without, and each message is taken once.
--
-- The claim. `Links` plays exactly the step of the definition, or says why not (`event`); it finds
-- and counts the choices as the definition does. Of each state that possible events leave
-- (`links_are_in_order`): its machines are in the world of the plain part of the events, which are
-- the goes and the takes that accept, and that part is possible for the cluster; some event is
-- possible until the run is finished; the choices are exactly the possible events. Each message is
-- taken once at most, as it was sent, and where the run is finished each one is taken. Drawn events
-- are possible in turn, and complete where they lead to the end (`drawn_links_are_possible`); that
-- they do lead there isn't said, for a link may lose for ever. A run has one text of form 3
-- (`read_links`, `links_have_one_text`).
--
-- The invariant (`HoldsWith`, in LinkHolds) ties the wire to the skeleton with which the machines
-- stand. Copies, acknowledgements and kept messages are lists of counts in the order of names, 1 to
-- 255 of each. Of a name that was neither sent nor taken there is nothing on the wire, nor is it
-- kept. A name that was sent and not accepted is kept, and nothing on the wire acknowledges it; so
-- there is a copy of it, or it can be sent again, and the run goes on. `HoldsAt` says it of a
-- world, and `step_holds` that each event keeps it.
--
-- The chain. Piles: counts and order behind one more and one fewer (`count_more`, `count_fewer`, in
-- PileLaws), and the place of a name (PilePlaceLaws, PileMoves). TrafficLaws: many messages sent at
-- once. GiftNames: what machines send has proper names. LinkHolds: the invariant, event by event.
-- LinkReached: the plain part of possible events (`plain_runs`), so the world is reached
-- (`world_reached`) and the state in order (`in_order`, `links_move`). DeliveredLaws: each message
-- once, over plain events (`delivered_once`). LinkChoiceLaws: the choices. LinkOrderLaws: the
-- clauses of the laws.
--
-- The code. The names that can be sent again are kept beside the counts, so that the k-th is found
-- at once; one event changes one name of them, which is settled again (WireLaws). A cluster tells
-- what a machine sent by its names, which the table of actions gives at the spot where it stood
-- (SendLaws, GoMoves). EventMoves: an event that was played. LinkChoicePlaces, WireChoiceLaws: the
-- choices by their places. Texts: StrippedWords, PlainLines, and ReadEvents, by which the events
-- read so far are the first ones of every run that the text says. LinkTextLaws: a text stands for one run
-- (`tells_one`), or has one fault (`one_link_fault`).
pub mod StrippedWords
pub mod PlainLines
pub mod ReadEvents
pub mod PileLaws
pub mod PilePlaceLaws
pub mod PileMoves
pub mod WireLaws
pub mod SendLaws
pub mod TrafficLaws
pub mod GiftNames
pub mod LinkHolds
pub mod LinkReached
pub mod LinkTextLaws
pub mod LinkChoiceLaws
pub mod DeliveredLaws
pub mod GoMoves
pub mod LinkOrderLaws
pub mod WireChoiceLaws
pub mod LinkChoicePlaces
pub mod EventMoves
