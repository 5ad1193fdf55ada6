-- The edges of a part, in their order and their chunk, as a test that reads each edge once.
use Rattle.std.specs.Prelude.{ℕ, ◌==◌, ◌&&◌, ◌||◌, Bool, true, nat_lt, nat_le, List, [], ◌∷◌}
use Rattle.vert_base.specs.declared.graph.Edge.{Edge}
use Rattle.chunk_split.specs.Chunks.{vertices_of}
use Rattle.circulant_plan.specs.Ring.{lies_in}

-- the first end doesn't fall, and while it stays the second doesn't
abbrev pub may_follow : ℕ × ℕ → ℕ × ℕ → Bool
may_follow before here = nat_lt before.0 here.0 || (before.0 == here.0 && nat_le before.1 here.1)

-- the edge has its minor end in chunk m, and its major one among all vertices
abbrev pub fits_chunk : List ℕ → ℕ → ℕ × ℕ → Bool
fits_chunk ends m here = lies_in ends m here.1 && nat_lt here.0 (vertices_of ends)

-- edges of chunk m by their major ends, equal ones by their minor ends, behind an edge with these ends
abbrev pub are_edges_behind : List ℕ → ℕ → (Edge → ℕ) → (Edge → ℕ) → ℕ × ℕ → List Edge → Bool
are_edges_behind ends m major minor before [] = true
are_edges_behind ends m major minor before (e ∷ es) =
    (fits_chunk ends m (major e, minor e) && may_follow before (major e, minor e))
    && are_edges_behind ends m major minor (major e, minor e) es
