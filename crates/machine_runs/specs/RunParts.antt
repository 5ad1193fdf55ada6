-- The parts of a graph on which a run is played.
use Rattle.std.specs.Prelude.{◌≡◌, ℕ, List}
use Rattle.chunk_split.specs.Bounds.{ends_of}
use Rattle.chunk_split.specs.Chunks.{vertices_of}
use Rattle.edge_reader.specs.EdgeList.{Graph}
use Rattle.symple_face.specs.Cluster.{IsOneRun}
use Rattle.symple_face.specs.Parts.{PlainPart}

-- the parts of one run on this graph, cut for so many machines, with these draws
pub record IsRunOf (machines draws : ℕ) (graph : Graph) (parts : List PlainPart) : Type 0 where
  pub one : IsOneRun parts
  pub ends_are : one.ends ≡ ends_of machines graph.vertices graph.list
  pub sized : vertices_of one.ends ≡ graph.vertices
  pub edges_are : one.edges ≡ graph.list
  pub draws_are : one.draws ≡ draws
