-- Chunks side by side from vertex 0 on, as the list of their ends.
use Rattle.std.specs.Prelude.{ℕ, zero, suc, ◌-◌, ◌<◌, ◌≤◌, List, length, slice_index}
use Rattle.std.specs.List.Sorted.{IsNonDecreasing}
use Rattle.vert_base.specs.Ends.{start_of}

-- at least one end and no more than `most`, and none is below an earlier one
abbrev pub AreEnds : ℕ → List ℕ → Type 0
AreEnds most ends = (1 ≤ length ends) × (length ends ≤ most) × IsNonDecreasing ends

-- how many vertices the chunks hold: up to the last end
abbrev pub vertices_of : List ℕ → ℕ
vertices_of ends = slice_index ends (length ends - 1)

-- chunk m holds vertex v
abbrev pub Holds : List ℕ → ℕ → ℕ → Type 0
Holds ends v m = (m < length ends) × (start_of ends m ≤ v) × (v < slice_index ends m)
