-- Lists that the code holds, as plain ones.
use Rattle.std.specs.Prelude.{ℕ, List, map}
use Rattle.std.specs.declared.alloc.Global.{Global}
use Rattle.std.specs.declared.vec.Vec.{Vec}
use Rattle.vert_base.specs.declared.graph.Edge.{Edge}
use Rattle.vert_base.specs.declared.graph.VertexId.{VertexId}
use Rattle.vert_eval.specs.Rounds.{Graph}

-- the numbers of vertices
abbrev pub ids_of : List VertexId → List ℕ
ids_of vertices = map (λ v. v.0) vertices

-- the numbers in a list of lists
abbrev pub id_lists_of : Vec (Vec VertexId Global) Global → List (List ℕ)
id_lists_of vs = map (λ v. ids_of v.items) vs.items

abbrev pub plain_graph : ℕ → List ℕ → List Edge → Graph
plain_graph vertices ends edges = record { vertices = vertices; ends = ends; edges = edges }
