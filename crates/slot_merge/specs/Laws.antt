-- What holds of partials in whatever order their words and they themselves come.
use Rattle.std.specs.Prelude.{◌≡◌, ℕ, ℤ, List, ◌∷◌, ◌++◌}
use Rattle.std.specs.List.Sorted.{IsPermutation}
use Rattle.vert_base.specs.declared.value.Combine.{Combine}
use Rattle.slot_merge.specs.declared.partial.Partial.{Partial}
use Rattle.slot_merge.specs.Combine.{combined}
use Rattle.slot_merge.specs.Partials.{empty_partial, with_words, with_partial, with_partials, ordered}
use Rattle.slot_merge.specs.Mergeable.{CanMerge, CanAllMerge}

-- the partial after these words of a slot of this kind
abbrev pub partial_of : Combine → List (ℕ × ℤ) → Partial
partial_of op ws = with_words ws (empty_partial op)

-- its value is that of the words by ascending key, equal keys by turn, in whatever order they came
abbrev pub AddedInAnyOrder : Type 0
AddedInAnyOrder = (op : Combine) (ws : List (ℕ × ℤ)) → (partial_of op ws).value ≡ combined op (ordered ws)

-- a partial merged into another has the words of both
abbrev pub MergedIsJoined : Type 0
MergedIsJoined = (op : Combine) (ws more : List (ℕ × ℤ)) →
    with_partial (partial_of op more) (partial_of op ws) ≡ partial_of op (ws ++ more)

-- of two partials either one may be merged into the other
abbrev pub MergedEitherWay : Type 0
MergedEitherWay =
    (op : Combine) (ws more : List (ℕ × ℤ)) →
    CanMerge (partial_of op ws) (partial_of op more) →
    with_partial (partial_of op more) (partial_of op ws) ≡ with_partial (partial_of op ws) (partial_of op more)

-- merging a list of partials gives one result for each order of the list
abbrev pub MergedInAnyOrder : Type 0
MergedInAnyOrder = (p : Partial) (ps qs : List Partial) → CanAllMerge (p ∷ ps) → IsPermutation ps qs →
    with_partials qs p ≡ with_partials ps p
