-- What a machine of the product does is lawful.
--
-- Moves. Moves: where an action or a take leads, what is sent under which names, and which names are held.
-- Words. The invariant is `core_sound` (`work_laws/specs/Sound`). The chain:
--   Reduced    `reduced_are_ints`: a let that a loop reduces is an Int (by the marks of statements)
--   Words      words of the lets by their classes, and the Bools among words
--   Sights     `part_sees`, `seen_has`, `loop_looped`: a sight that fits, its environments, and a loop over it
--   Scans      `scanned_fits`: a scan at a vertex; loop states as bodies tell them
--   Partials   one word, what was sent, or emissions more
--   Held       what is read of a body that fits, and of one that is missing
--   Sees, Sparse, Closes, Counts   what a scan, the begin of a round, a close and a judge leave
-- Events. Gone: `go_sound`, by spots; Taken: `take_sound`, by kinds; Lists, Sent: `sent_fit`; Firsts: `first_sound`
-- and what a start leaves. Whole puts the laws together.
pub mod Moves
pub mod Reduced
pub mod Words
pub mod Sights
pub mod Scans
pub mod Partials
pub mod Held
pub mod Sees
pub mod Sparse
pub mod Closes
pub mod Counts
pub mod Gone
pub mod Taken
pub mod Lists
pub mod Sent
pub mod Firsts
pub mod Whole
