-- One machine that walks the trees of a program computes the run that the source means.
--
-- The claim. `run_plainly` answers the rows after the last round of `source_run` (vert_eval) and
-- tells its rounds: number, ruling, active vertices and their edges, how many sources were read,
-- and where they are asked for the sources that each vertex read, in order. The run is over the
-- table; `runs_by_table` says that it is the run over the edges of which the table was made.
--
-- What carries it, from the inside out. Statements: what is left after a turn ends as what was left
-- before it does, with the partials so far in the place of the emissions so far (`SameEnd`, in
-- specs/Frames; `turn_ends`, in RunLaws). Members: the sources of the members so far, with what the
-- rest of the loop reads, are what the whole loop reads (`turn_reads`, in TurnLaws). Vertices: the
-- rows, reads and partials so far are those of the first so many vertices. Rounds: what was told
-- and what is left make the whole run (`IsLeft`, in RoundsLaws). That an index never runs past an
-- end follows from places: an environment has as many words of each kind as the typed program has
-- names (EnvLaws, `dense_parts` and `sparse_parts` in BlockLaws).
--
-- The chain. The neighbours of a vertex come as two pieces of one slice of the table, since the
-- list turns where its chunk ends: GraphLaws counts the lists of a vertex, PieceLaws joins two
-- loops to one (`loop_going`, `going_reads`). SlotLaws and KeptLaws: values of partials, and reads
-- that are kept or not. BlockLaws puts test, lets, loop and tail together (`block_partials`,
-- `block_reads`). ActiveLaws: the edges from active vertices, which are some of all edges.
-- StartLaws: first rows and totals (`first_row_is`, `total_step`), and that what stands after a
-- round has a row for each vertex and all totals (`stands`). RoundsLaws ends the loop over rounds
-- (`left_more`, `rows_ended`, `rounds_ended`).
--
-- Tables. Graphs are alike where each vertex has the same members and degrees (`AreAlike`), and
-- then their runs are one (`source_same`, in AlikeLaws); a table is like its edges (TableRunLaws).
pub mod ActiveLaws
pub mod AlikeLaws
pub mod BlockLaws
pub mod EnvLaws
pub mod GraphLaws
pub mod KeptLaws
pub mod PieceLaws
pub mod RoundsLaws
pub mod RunLaws
pub mod SlotLaws
pub mod StartLaws
pub mod TableRunLaws
pub mod TurnLaws
