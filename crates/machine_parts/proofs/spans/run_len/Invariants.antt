-- All edges so far have the end.
use Rattle.std.proofs.Common.{◌≡◌, ◌<◌, ℕ, get_or}
use Rattle.vert_base.specs.declared.graph.Edge.{Edge}
use Rattle.graph_table.specs.Sides.{key_of}
use Rattle.machine_parts.proofs.spans.run_len.Given as goal

abbrev pub invariant-loop-count : goal.invariant-loop-count
invariant-loop-count l = (k : ℕ) (d : Edge) → k < l.count → key_of l.side (get_or l.edges k d) ≡ l.vertex
