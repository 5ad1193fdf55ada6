-- Where the chunks of a graph's vertices end.
use Rattle.std.specs.Prelude.{◌≡◌, ℕ, zero, suc, ◌+◌, ◌-◌, ◌*◌, ◌<◌, ◌≤◌, nat_le, if◌then◌else◌, List, [], ◌∷◌, length, map, take, drop, sum, slice_index}
use Rattle.std.specs.Int.{div_ceil}
use Rattle.std.specs.List.{range_with_len}
use Rattle.vert_base.specs.declared.graph.Edge.{Edge}
use Rattle.vert_base.specs.Neighbours.{outs_of}
use Rattle.vert_base.specs.Ends.{start_of}

-- the cost of vertex v among p machines: 8 for each other machine, and 1 for each edge that leaves it
abbrev pub cost_of : ℕ → ℕ → List Edge → ℕ → ℕ
cost_of p n edges v = 8 * (p - 1) + length (outs_of n edges v)

-- the costs of all vertices
abbrev pub costs_of : ℕ → ℕ → List Edge → List ℕ
costs_of p n edges = map (cost_of p n edges) (range_with_len 0 n)

-- how many costs in front it takes to reach `need`: all where they don't
abbrev pub reach : ℕ → List ℕ → ℕ
reach need [] = 0
reach need (cost ∷ costs) = if nat_le need 0 then 0 else suc (reach (need - cost) costs)

-- the ends of p chunks of the vertices with these costs, of which the first is `start`:
-- each chunk but the last reaches its share of what is left, rounded up, and the last takes the rest
abbrev pub ends_from : ℕ → ℕ → List ℕ → List ℕ
ends_from zero start costs = []
ends_from (suc zero) start costs = (start + length costs) ∷ []
ends_from (suc (suc p)) start costs =
    let len = reach (div_ceil (sum costs) (suc (suc p))) costs in
    (start + len) ∷ ends_from (suc p) (start + len) (drop len costs)

-- the ends of the chunks of p machines in the graph of n vertices and these edges
abbrev pub ends_of : ℕ → ℕ → List Edge → List ℕ
ends_of p n edges = ends_from p 0 (costs_of p n edges)

-- the costs of the vertices from `start` up to e, without e
abbrev pub cost_between : List ℕ → ℕ → ℕ → ℕ
cost_between costs start e = sum (take (e - start) (drop start costs))

-- the least e above `start` such that the costs from `start` up to e, without e, add up to at least `need`,
-- and the number of vertices where there is no such e
pub record IsLeast (need : ℕ) (costs : List ℕ) (start e : ℕ) : Type 0 where
  pub within : e ≤ length costs
  pub above : e < length costs → start < e
  pub reached : e < length costs → need ≤ cost_between costs start e
  pub least : (k : ℕ) → start < k → k < e → cost_between costs start k < need

-- each of p chunks but the last ends at the least vertex that gives it its share of the costs from its start on,
-- rounded up, and the last chunk ends the vertices
pub record AreBounds (p : ℕ) (costs ends : List ℕ) : Type 0 where
  pub count : length ends ≡ p
  pub each : (i : ℕ) → i + 1 < p → IsLeast (div_ceil (sum (drop (start_of ends i) costs)) (p - i)) costs
      (start_of ends i) (slice_index ends i)
  pub last : slice_index ends (p - 1) ≡ length costs
