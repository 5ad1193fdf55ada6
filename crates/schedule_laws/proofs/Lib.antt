-- A run by cores prints what the source's run says, whatever its schedule.
--
-- First what one event of one machine leaves, from the laws of each. Runs: the parts of a graph that can run have a run
-- of the source. Stands: what stands before each of its rounds are words. SourceSees: what the source does in a round
-- is what a machine does that sees its rows, so its sends, loop states and updates are words of their forms. Counts:
-- counts fit their bytes. DenseRounds: the premises of the laws of single events. Onward, Goes: an act by its spot.
-- Took, Takes: a take by the message's kind. FirstStates: the first states.
--
-- Then worlds. RunLaws: the source's run from a round on, by whether the round takes place; so the text that is still
-- to come. Parts: the machines of a run can run a program whose literals fit.
-- ReadTurns: what the machines of the steps read of a vertex, one after another, is what its loop reads. Shown: so a
-- world shows the source's rows and reads where its machines hold them.
-- Follows: a world goes with the source's run where each machine and each message is what the events leave, and the
-- rulings of its skeleton are the source's; each event keeps this. Firsts: both first worlds go with it.
-- Printed: an event prints the first lines of what is still to come: only a judge of machine 0 does, when all others
-- stand at the next begin. Printing: so a list of events prints all of it, and at the end the table.
-- Saying: the same by the events and the skeleton, with the line of each event. Whole: from either first world.
-- ToldRounds: so the rounds that the machines report are those of the source's run.
-- Starts: behind the judge of a round the machines tell the start of the next. Rests: a run from there prints the rest.
-- CountedRuns: a complete run is one of the skeleton, by the rulings that its judges make, and so has its counts.
pub mod CountedRuns
pub mod Counts
pub mod DenseRounds
pub mod FirstStates
pub mod Firsts
pub mod Follows
pub mod Goes
pub mod Onward
pub mod Parts
pub mod Printed
pub mod Printing
pub mod ReadTurns
pub mod Rests
pub mod RunLaws
pub mod Runs
pub mod Saying
pub mod Shown
pub mod SourceSees
pub mod Stands
pub mod Starts
pub mod Takes
pub mod ToldRounds
pub mod Took
pub mod Whole
