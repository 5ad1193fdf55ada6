-- What machines hold of a graph is the graph, and what they do in a round comes to the source run.
--
-- Parts, as `part_of` of symple_face makes them of a graph and of chunks: the edges into a vertex that a machine scans
-- are the members of its loop that lie with it, and the edges over which its owner is pushed to are all that lead to
-- it, each in the order of in(v) (Members); so the machines of the steps on a chunk read N_t(v) in its order. The lists
-- of vertices between two machines are those of a chunk at which there is something to scan or to push over, and a
-- machine knows the degrees of its own vertices and of all that it works on (Vertices). The keys of a sparse round rise
-- along N_t(v) (Keys). Sums, counts and totals by chunks are those over all vertices, and sums by steps those by
-- machines (Sums). The receiver of a planned message can take it (Planned).
--
-- Chunks: each vertex lies in one chunk, and the chunks are those of the ring.
-- Lists: tests of lists, filters and orders, for the files on parts. Ranges: lists over the first so many numbers.
-- Members: an order of a filter is a filter of the order, and an order of two keys keeps what has one of them.
-- Keys: above the turn a key is u - t, below it n - t + u, so a list by ascending source that turns at t rises by key.
-- Vertices: the chunk's vertices are those of all that pass `lies_in`; both tests are `list_any` over the same edges.
-- Sums: the chunks cover the vertices from 0 on; what is summed over joined lists is summed over the lists.
--
-- Steps: one machine more in the ring of a vertex (`grows`), by the law of split loops: the segment of a machine adds
-- to the loop so far what the whole loop adds. So emissions and reads are those of the machines of the steps, one
-- after another (`by_machines`), and without a carry each machine begins afresh (`begins_afresh`).
-- Lets: the lets at the loop's end are own words, carried ones, and own ones combined with the operands of the steps.
-- DenseRound: a partial with a bucket for each step and one for the tail has what the source combines.
-- Seen: a machine's environments and loops are the source's where it sees the source's rows and degrees. Sights: by
-- its own rows and those that it was told it sees them wherever a scan looks (`own_scans_seen`, `told_scans_seen`).
-- Scans: a scan at a vertex does what the machine of the step does, whatever the key. IdealScans: so from an ideal ring
-- state it hands on, sends and reads what the source's run says (`scans_ideal`).
-- Partials: what is sent goes to the ends of buckets, and the values of partials by their buckets.
-- DenseClose: the tail runs in the environment that the loop leaves, so the close makes the source's row.
-- SparseClose: keys rise along N_t(v), so the buckets in turn are what its members emit.
-- MachineScans: a scan of a half, from the parts, the rows told and the states taken. Tallies, Judging: sums, rulings.
--
-- The fold. The invariant of one machine (`IsIdeal`, in specs/IsIdeal) is all that it holds, told by the source's run,
-- its spot and the messages taken. Each event of the machine keeps it, and what it sends has the body that the run
-- says.
-- FoldTakes, FoldUpdates, FoldVerdicts, FoldTells, FoldScan, FoldJudge, FoldCloses, IdealClose, IdealSparse: one event
-- of one machine. Held, Lowered: what they need of messages held and of bounds above keys. FoldScanReady: what a
-- machine that is ready scans. FoldScanPlaces: the spot behind a scan. FoldScanHalves: halves and owners. FoldScanHeld:
-- dropped bodies.
-- SentScan, SentTallies, SentBegin: the bodies of what is sent. ReadsTargets, ReadsCounted: a machine reads of its
-- targets alone, and all machines read what the source's run reads.
-- FoldPushEdges: edges in turn, each under its key; all members of a key have one source, so their sends come at once.
-- FoldPushWalk: the edges that a machine works fill the buckets of each own vertex. FoldPushLists: what a push tells of
-- the sources of these edges. FoldPushes: a push that is worked when it is taken, and one that is kept. FoldBegins: the
-- begin of a dense round, and the pushes sent at that of a sparse one. FoldBeginsSparse: the begin of a sparse round.
pub mod Chunks
pub mod DenseClose
pub mod DenseRound
pub mod FoldBegins
pub mod FoldBeginsSparse
pub mod FoldCloses
pub mod FoldJudge
pub mod FoldScan
pub mod FoldScanHalves
pub mod FoldScanHeld
pub mod FoldScanPlaces
pub mod FoldScanReady
pub mod FoldPushEdges
pub mod FoldPushLists
pub mod FoldPushWalk
pub mod FoldPushes
pub mod FoldTakes
pub mod FoldTells
pub mod FoldUpdates
pub mod FoldVerdicts
pub mod Held
pub mod IdealClose
pub mod IdealScans
pub mod IdealSparse
pub mod Judging
pub mod Keys
pub mod Lets
pub mod Lists
pub mod Lowered
pub mod MachineScans
pub mod Members
pub mod Partials
pub mod Planned
pub mod Ranges
pub mod ReadsCounted
pub mod ReadsTargets
pub mod Scans
pub mod Seen
pub mod SentBegin
pub mod SentScan
pub mod SentTallies
pub mod Sights
pub mod SparseClose
pub mod Steps
pub mod Sums
pub mod Tallies
pub mod Vertices
