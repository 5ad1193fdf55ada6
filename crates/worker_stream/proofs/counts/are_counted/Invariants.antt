-- What is left of the degrees decides.
use Rattle.std.proofs.Common.{◌≡◌, List, drop}
use Rattle.std.specs.List.{list_all}
use Rattle.vert_base.specs.declared.graph.Edge.{Edge}
use Rattle.vert_base.specs.Neighbours.{source, target}
use Rattle.chunk_split.specs.Chunks.{vertices_of}
use Rattle.graph_table.specs.Starts.{AreCounts}
use Rattle.worker_stream.specs.Degrees.{is_counted}
use Rattle.worker_stream.proofs.counts.are_counted.Given as goal

abbrev pub invariant-loop-degree : goal.invariant-loop-degree
invariant-loop-degree l = (into from : List Edge) → AreCounts target (vertices_of l.cuts) into l.ins →
    AreCounts source (vertices_of l.cuts) from l.outs →
    list_all (is_counted l.cuts l.machine into from) (drop l.degree-index l.degrees)
    ≡ list_all (is_counted l.cuts l.machine into from) l.degrees
