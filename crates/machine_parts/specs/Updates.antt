-- What updates tell of own vertices.
use Rattle.std.specs.Prelude.{ℕ, ℤ, ◌-◌, ◌++◌, List, [], Option, None, Some, length, map, slice_index_or, slice_set}
use Rattle.std.specs.List.{range_with_len}
use Rattle.vert_base.specs.declared.value.Combine.TheVariants.{Sum}
use Rattle.slot_merge.specs.declared.partial.Partial.{Partial}
use Rattle.slot_merge.specs.Partials.{empty_partial, with_word}
use Rattle.body_shape.specs.Update.{Sent}
use Rattle.symple_face.specs.CoreSight.{beside}
use Rattle.symple_face.specs.CoreTakes.{with_sent}

-- the words of a vertex: those for its slots, then those for the reduced lets
abbrev pub told_values : Sent → List (Option ℤ)
told_values sent = sent.values ++ sent.operands

-- partials with a word for one of them, where it is there
abbrev pub with_told : ℕ → Option ℤ → ℕ → List Partial → List Partial
with_told key None column ps = ps
with_told key (Some word) column ps = slice_set ps column
    (with_word key word (slice_index_or ps column (empty_partial Sum)))

abbrev pub nothing : Sent
nothing = record { values = []; operands = [] }

-- the partials of the own vertices, which begin at a number, with what is told under a key of each of a list
abbrev pub with_sents : ℕ → ℕ → List ℕ → List Sent → List (List Partial) → List (List Partial)
with_sents start key vertices sents all =
    map (λ v. with_sent key (beside nothing v vertices sents) (slice_index_or all (v - start) []))
    (range_with_len start (length all))
