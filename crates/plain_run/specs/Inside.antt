-- A table and its chunks as a graph.
use Rattle.std.specs.Prelude.{◌≡◌}
use Rattle.chunk_split.specs.Chunks as chunks
use Rattle.vert_eval.specs.Rounds.{Graph}
use Rattle.plain_run.specs.declared.graph.Graph.TheInside.{Inside}
use Rattle.plain_run.specs.Lists.{plain_graph}

abbrev pub graph_inside : Inside → Graph
graph_inside g = plain_graph g.table.now.vertices g.cuts.now g.table.now.list

-- the chunks hold all vertices
pub record IsCutWhole (g : Inside) : Type 0 where
  pub whole : chunks.vertices_of g.cuts.now ≡ g.table.now.vertices
