-- What holds of the order in which the machines of a chunk read.
use Rattle.std.specs.Prelude.{◌≡◌, ◌<◌, ◌≤◌, ℕ, ◌-◌, ◌++◌, List, slice_index}
use Rattle.std.specs.List.{filter}
use Rattle.vert_base.specs.declared.graph.Edge.{Edge}
use Rattle.vert_base.specs.Neighbours.{source, ins_of, turn_of, neighbours_of}
use Rattle.circulant_plan.specs.Ring.{IsCirculant, AreEndsUpTo, IsInChunk, lies_early, members_by_steps}

abbrev pub EachRingTurns : Type 0
EachRingTurns = (p : ℕ) → 1 ≤ p → IsCirculant p

-- t(v) is the end of the chunk that v lies in
abbrev pub TurnsAtItsEnd : Type 0
TurnsAtItsEnd =
    (n p d v : ℕ) (ends : List ℕ) → AreEndsUpTo n p ends → d < p → IsInChunk ends d v →
    turn_of ends v ≡ slice_index ends d

-- the members of in(v) with the machines of v's chunk d, by all steps, are the neighbours of v in the order of its loop
abbrev pub ReadsInTurn : Type 0
ReadsInTurn =
    (n p d v : ℕ) (ends : List ℕ) (edges : List Edge) → AreEndsUpTo n p ends → d < p → IsInChunk ends d v →
    members_by_steps ends p d 0 p (ins_of n edges v) ≡ neighbours_of n ends edges v

-- those of the first steps are a first part of them, and those of the later steps are the rest
abbrev pub ReadsByParts : Type 0
ReadsByParts =
    (n p d v count : ℕ) (ends : List ℕ) (edges : List Edge) → AreEndsUpTo n p ends → d < p →
    IsInChunk ends d v → count ≤ p →
    members_by_steps ends p d 0 count (ins_of n edges v)
    ++ members_by_steps ends p d count (p - count) (ins_of n edges v)
    ≡ neighbours_of n ends edges v

-- those of the first steps are the neighbours that lie with the machines of these steps
abbrev pub ReadsEarlyOnes : Type 0
ReadsEarlyOnes =
    (n p d v count : ℕ) (ends : List ℕ) (edges : List Edge) → AreEndsUpTo n p ends → d < p →
    IsInChunk ends d v → count ≤ p →
    filter (λ e. lies_early ends p d count (source e)) (neighbours_of n ends edges v)
    ≡ members_by_steps ends p d 0 count (ins_of n edges v)
