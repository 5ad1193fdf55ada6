-- Edges that lead to own vertices.
use Rattle.std.specs.Prelude.{◌<◌, ◌≤◌, ◌-◌, ℕ}
use Rattle.vert_base.specs.declared.graph.Edge.{Edge}
use Rattle.vert_base.specs.Neighbours.{source, target}

-- the receiver of an edge has its place among the own vertices, and its sender is one of the graph
abbrev pub IsReceived : ℕ → ℕ → ℕ → ℕ → Edge → Type 0
IsReceived start degrees rows vertices e =
    (start ≤ target e) × (target e - start < degrees) × (target e - start < rows) × (source e < vertices)
