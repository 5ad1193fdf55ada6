-- The flat lists of a machine say what the definitions say of its rows, edges and messages.
--
-- The claims, each the contract of a call. `Rows` and `RingHalf` hold the rows and ring states of
-- vertices, and read, put and spell one at a time. `Groups` has a span for each target of what is
-- scanned and each source of what is pushed over, whose edges are exactly those of the vertex, in
-- their order; by ascending vertex, so that the spans of a range of vertices are one slice
-- (`spans_within`). A feed gives the sources of edges with their rows and degrees. An environment
-- that is entered at a vertex is the one that the machine sees there, whatever was done with it
-- before (`enter`, `own_vertices`). What an update tells is added to the partials of its vertices
-- and to no others (`merge_update`); a push tells what own vertices send (`push_body`); counts and
-- totals are those over the own vertices; `first_missing` answers the first name that a spot needs
-- and that isn't held, and `rule` the ruling of the next round.
--
-- What carries them. Two lists of one length make one list of records, place by place (`zip_with`),
-- and each row of words is as wide as the table; so what is read at a place is what was put there,
-- and a ring state whose loop hasn't begun has zeros (`AreStill`). Edges in order of one end stand
-- side by side, and those behind a place have greater ends (`IsSpanning`). From vertex to vertex an
-- environment keeps the numbers, totals and slots, and all else is set anew when it is entered
-- (`settled`). What is left of an update, added to the partials so far, comes to the whole update
-- added to those at first (`merged`); a list of vertices that ascends has none twice, so vertex by
-- vertex is all at once (`merged_is`).
--
-- The chain. FlatLaws: two lists as one, for `Rows` and `RingHalf`. SpanLaws: the run of the edges
-- with one end (`run_edges`), one span more (`spanning_more`), all of them (`spanning_all`), and
-- slices of spans (`passing_first`, `spans_rise`). TargetLaws: the targets in a chunk are the
-- vertices whose rows the machine tells (`targets_are_told`). SeenLaws: an own vertex is entered as
-- it is seen (`own_is_seen`), and totals and edges so. TotalLaws, CountLaws: one vertex more in a
-- loop. SendingLaws: one vertex more in a push (`vertex_told`). UpdateLaws: one word more
-- (`added_more`), one vertex more (`merged_all`), and the end (`merged_end`). MissingLaws: one name
-- after another.
pub mod CountLaws
pub mod FlatLaws
pub mod MissingLaws
pub mod RingLaws
pub mod SeenLaws
pub mod SendingLaws
pub mod SpanLaws
pub mod TargetLaws
pub mod TotalLaws
pub mod UpdateLaws
