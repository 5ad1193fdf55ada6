-- Neighbours with their rows, as a machine holds them.
use Rattle.std.specs.Prelude.{◌≤◌, ◌<◌, ℕ, ◌-◌, List, slice_index_or}
use Rattle.std.specs.List.{All}
use Rattle.vert_base.specs.declared.graph.Edge.{Edge}
use Rattle.vert_base.specs.declared.graph.Neighbour.{Neighbour}
use Rattle.vert_base.specs.declared.graph.VertexId.{VertexId}
use Rattle.vert_base.specs.declared.value.Row.{Row}
use Rattle.vert_base.specs.Neighbours.{source}
use Rattle.vert_eval.specs.Rounds.{row_at}
use Rattle.symple_face.specs.declared.degree.Degree.{Degree}

abbrev pub no_degree : Degree
no_degree = record { id = record { 0 = 0 }; ins = 0; outs = 0 }

-- the source of an edge with its row, where the own vertices begin at a number
abbrev pub member_in : ℕ → List Degree → List Row → Edge → Neighbour × Row
member_in start degrees rows e =
    let degree = slice_index_or degrees (source e - start) no_degree in (
      record { id = e.from; weight = e.weight; indeg = degree.ins; outdeg = degree.outs },
      row_at rows
          (source e - start),
    )

-- the source of each edge is among the own vertices
abbrev pub AreOwn : ℕ → ℕ → ℕ → List Edge → Type 0
AreOwn start degrees rows edges = All (λ e. (start ≤ source e) × (source e - start < degrees)
    × (source e - start < rows)) edges

-- each vertex has a place among so many own ones
abbrev pub ArePlaced : ℕ → ℕ → List VertexId → Type 0
ArePlaced start count vertices = All (λ v. (start ≤ v.0) × (v.0 - start < count)) vertices
