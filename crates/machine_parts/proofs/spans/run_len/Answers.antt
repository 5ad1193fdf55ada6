-- The edges so far are those at the front that have the end.
use Rattle.graph_table.specs.Sides.{key_of}
use Rattle.machine_parts.proofs.SpanLaws.{run_ends, run_stops}
use Rattle.machine_parts.proofs.spans.run_len.Goals as goal

pub returns-then-end_of-vertex : goal.returns-then-end_of-vertex
returns-then-end_of-vertex c =
    run_stops (key_of c.args.side) c.args.vertex c.args.edges.now c.loop-count.count _ _ c.loop-count-test.true
    c.end_of.ensures c.if-end_of-vertex.true c.loop-count.invariant

pub returns : goal.returns
returns c = run_ends (key_of c.args.side) c.args.vertex c.loop-count.count c.args.edges.now c.loop-count-test.false
    c.loop-count.invariant
