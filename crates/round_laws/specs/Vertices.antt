-- The vertices of which a machine is told, and those whose degrees it knows.
use Rattle.std.specs.Prelude.{◌≡◌, ◌==◌, ◌<◌, ℕ, Bool, true, false, List, [], ◌∷◌, length}
use Rattle.std.specs.List.{filter, list_any}
use Rattle.vert_base.specs.declared.graph.Edge.{Edge}
use Rattle.vert_base.specs.Neighbours.{bucket, ins_of, source}
use Rattle.chunk_split.specs.Chunks.{AreEnds, vertices_of}
use Rattle.circulant_plan.specs.Ring.{lies_in, members_with}
use Rattle.symple_face.specs.Parts.{chunk_vertices, push_list, refresh_list}
use Rattle.symple_face.specs.PartsOf.{known_of, push_of}

abbrev pub are_some : {X : Type 0} → List X → Bool
are_some [] = false
are_some (x ∷ xs) = true

-- the members of a vertex that lie with machine m
abbrev pub members_at : List ℕ → List Edge → ℕ → ℕ → List Edge
members_at ends edges m v = members_with ends m (ins_of (vertices_of ends) edges v)

-- R(k, m): the vertices of chunk k some of whose members lie with machine m
abbrev pub RefreshedMeet : Type 0
RefreshedMeet =
    (most : ℕ) (ends : List ℕ) (edges : List Edge) (k m : ℕ) → AreEnds most ends → k < length ends → m < length ends →
    refresh_list ends k m edges ≡ filter (λ v. are_some (members_at ends edges m v)) (chunk_vertices ends k)

-- P(m, k): the vertices of chunk m from which machine k has edges to push over
abbrev pub PushedMeet : Type 0
PushedMeet =
    (most : ℕ) (ends : List ℕ) (edges : List Edge) (k m : ℕ) → AreEnds most ends → k < length ends → m < length ends →
    push_list ends m k edges ≡ filter (λ u. are_some (bucket source u (push_of ends edges k))) (chunk_vertices ends m)

-- the vertex is among those whose degrees machine m knows
abbrev pub knows : List ℕ → List Edge → ℕ → ℕ → Bool
knows ends edges m v = list_any (λ u. u == v) (known_of ends edges m)

-- a machine knows the degrees of its own vertices, and so those of the sources of all edges that it scans
abbrev pub KnowsOwn : Type 0
KnowsOwn =
    (most : ℕ) (ends : List ℕ) (edges : List Edge) (m v : ℕ) →
    AreEnds most ends → m < length ends → lies_in ends m v ≡ true →
    knows ends edges m v ≡ true

-- and those of each vertex that it works on, some of whose members lie with it
abbrev pub KnowsWorked : Type 0
KnowsWorked =
    (most : ℕ) (ends : List ℕ) (edges : List Edge) (m v : ℕ) →
    AreEnds most ends → m < length ends → v < vertices_of ends →
    are_some (members_at ends edges m v) ≡ true → knows ends edges m v ≡ true
