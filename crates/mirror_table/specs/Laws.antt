-- What holds of the parts of a graph together.
use Rattle.std.specs.Prelude.{ℕ, List, length, map}
use Rattle.std.specs.List.{flat_map, range_with_len}
use Rattle.std.specs.List.Sorted.{IsPermutation, IsStrictlyIncreasing}
use Rattle.vert_base.specs.declared.graph.Edge.{Edge}
use Rattle.vert_base.specs.Neighbours.{AreBelow}
use Rattle.chunk_split.specs.Chunks.{AreEnds, vertices_of}
use Rattle.symple_face.specs.PartsOf.{part_of, push_of, scan_of}

-- each edge stands once in one `scan`, as often as it stands in the graph
abbrev pub ScansHoldEach : Type 0
ScansHoldEach =
    (most : ℕ) (ends : List ℕ) (edges : List Edge) → AreEnds most ends → AreBelow (vertices_of ends) edges →
    IsPermutation edges (flat_map (scan_of ends edges) (range_with_len 0 (length ends)))

-- and once in one `push`
abbrev pub PushesHoldEach : Type 0
PushesHoldEach =
    (most : ℕ) (ends : List ℕ) (edges : List Edge) → AreEnds most ends → AreBelow (vertices_of ends) edges →
    IsPermutation edges (flat_map (push_of ends edges) (range_with_len 0 (length ends)))

-- the degrees of a part stand by ascending vertex
abbrev pub DegreesAscend : Type 0
DegreesAscend =
    (most : ℕ) (ends : List ℕ) (draws : ℕ) (edges : List Edge) (m : ℕ) → AreEnds most ends →
    IsStrictlyIncreasing (map (λ d. d.id.0) (part_of ends draws edges m).degrees)
