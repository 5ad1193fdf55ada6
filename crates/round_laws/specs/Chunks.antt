-- The chunks of the parts are those of the ring, and each vertex lies in one.
use Rattle.std.specs.Prelude.{◌≡◌, ◌<◌, ℕ, true, List, length}
use Rattle.chunk_split.specs.Chunks.{AreEnds, vertices_of}
use Rattle.circulant_plan.specs.Ring.{AreEndsUpTo, lies_in}

-- the ends of chunks reach up to the number of vertices, as the plan wants it
abbrev pub EndsReach : Type 0
EndsReach = (most : ℕ) (ends : List ℕ) → AreEnds most ends → AreEndsUpTo (vertices_of ends) (length ends) ends

-- a vertex lies in a chunk
abbrev pub EachHasAChunk : Type 0
EachHasAChunk =
    (most : ℕ) (ends : List ℕ) (v : ℕ) → AreEnds most ends → v < vertices_of ends →
    (k : ℕ) × (k < length ends) × (lies_in ends k v ≡ true)

-- and in no other one
abbrev pub NoneHasTwo : Type 0
NoneHasTwo =
    (most : ℕ) (ends : List ℕ) (k m v : ℕ) → AreEnds most ends → k < length ends → m < length ends →
    lies_in ends k v ≡ true → lies_in ends m v ≡ true → k ≡ m
