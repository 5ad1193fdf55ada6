-- The edges into a vertex, as the parts of the machines hold them.
use Rattle.std.specs.Prelude.{◌≡◌, ◌<◌, ◌+◌, ℕ, true, List, ◌++◌}
use Rattle.std.specs.List.{flat_map, range_with_len}
use Rattle.vert_base.specs.declared.graph.Edge.{Edge}
use Rattle.vert_base.specs.Neighbours.{bucket, ins_of, neighbours_of, target}
use Rattle.chunk_split.specs.Chunks.{vertices_of}
use Rattle.circulant_plan.specs.Ring.{AreEndsUpTo, IsInChunk, lies_in, members_by_steps, members_with, order_of}
use Rattle.symple_face.specs.PartsOf.{push_of, scan_of}

-- the edges into a vertex that a machine scans are the members that lie with it, in their order
abbrev pub ScanMembers : Type 0
ScanMembers =
    (ends : List ℕ) (edges : List Edge) (m v : ℕ) → v < vertices_of ends →
    bucket target v (scan_of ends edges m) ≡ members_with ends m (ins_of (vertices_of ends) edges v)

-- the edges over which the owner of a vertex is pushed to are all that lead to it, in their order
abbrev pub PushMembers : Type 0
PushMembers =
    (ends : List ℕ) (edges : List Edge) (m v : ℕ) → v < vertices_of ends → lies_in ends m v ≡ true →
    bucket target v (push_of ends edges m) ≡ ins_of (vertices_of ends) edges v

-- a step more reads the members that lie with its machine
abbrev pub StepsMembers : Type 0
StepsMembers =
    (ends : List ℕ) (p d count : ℕ) (members : List Edge) →
    members_by_steps ends p d 0 (count + 1) members
    ≡ members_by_steps ends p d 0 count members ++ members_with ends (order_of d count p) members

-- what the machines of a chunk scan at a vertex of it, step by step, are its members in the order of its loop
abbrev pub ScansReadInTurn : Type 0
ScansReadInTurn =
    (ends : List ℕ) (edges : List Edge) (p d v : ℕ) →
    AreEndsUpTo (vertices_of ends) p ends → d < p → IsInChunk ends d v → v < vertices_of ends →
    flat_map (λ step. bucket target v (scan_of ends edges (order_of d step p))) (range_with_len 0 p)
    ≡ neighbours_of (vertices_of ends) ends edges v
