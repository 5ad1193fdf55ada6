-- Lists of edges.
use Rattle.std.specs.Prelude.{ℕ, ◌+◌, List, [], ◌∷◌, max}
use Rattle.vert_base.specs.declared.graph.Edge.{Edge}

-- the same edge the other way round
abbrev pub reversed : Edge → Edge
reversed edge = record { from = edge.to; to = edge.from; weight = edge.weight }

-- the greatest id plus 1, or 0 where there is no edge
abbrev pub bound_of : List Edge → ℕ
bound_of [] = 0
bound_of (edge ∷ edges) = max (max (edge.from.0 + 1) (edge.to.0 + 1)) (bound_of edges)

-- what a file says: how many vertices there are, and the edges by file place
pub record Graph : Type 0 where
  pub vertices : ℕ
  pub list : List Edge
