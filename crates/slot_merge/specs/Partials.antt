-- What was emitted to one slot so far, each word under a key.
use Rattle.std.specs.Prelude.{ℕ, ℤ, suc, List, [], ◌∷◌, map, max, Option, Some, None, slice_get, slice_set, nat_lt, if◌then◌else◌}
use Rattle.vert_base.specs.declared.value.Combine.{Combine}
use Rattle.vert_base.specs.declared.value.Combine.TheVariants.{First}
use Rattle.vert_base.specs.Neighbours.{in_order}
use Rattle.slot_merge.specs.Combine.{combined_of, Emission}
use Rattle.slot_merge.specs.declared.partial.Partial.{Partial}

-- the partial of a slot to which nothing was emitted
abbrev pub empty_partial : Combine → Partial
empty_partial op = record { op = op; key = 0; value = None }

-- the key that a word brings counts for `First` alone
abbrev pub keyed : Combine → ℕ → ℕ → ℕ
keyed First old key = key
keyed _ old key = old

-- the partial that has this word alone
abbrev pub started : ℕ → ℤ → Partial → Partial
started key word p = record p { key = keyed p.op p.key key; value = Some word }

-- the partial that has the word x, after one more
abbrev pub with_second : Combine → ℕ → ℤ → Partial → ℤ → Partial
with_second First key y p x = if nat_lt key p.key then started key y p else p
with_second op key y p x = record p { value = Some (combined_of op x y) }

-- the partial after a word, whatever it has
abbrev pub with_word_from : Option ℤ → ℕ → ℤ → Partial → Partial
with_word_from None key word p = started key word p
with_word_from (Some held) key word p = with_second p.op key word p held

-- the partial after a word under a key: `First` keeps the word of the least key, and of equal keys
-- the earlier one
abbrev pub with_word : ℕ → ℤ → Partial → Partial
with_word key word p = with_word_from p.value key word p

-- the partial after words, each with its key
abbrev pub with_words : List (ℕ × ℤ) → Partial → Partial
with_words [] p = p
with_words (w ∷ ws) p = with_words ws (with_word w.0 w.1 p)

-- a number above each key
abbrev pub above : List (ℕ × ℤ) → ℕ
above [] = 0
above (w ∷ ws) = max (suc w.0) (above ws)

-- the words by ascending key, equal keys by turn
abbrev pub ordered : List (ℕ × ℤ) → List ℤ
ordered ws = map (λ w. w.1) (in_order (λ w. w.0) (above ws) ws)

-- the partial after what another one has
abbrev pub with_partial_from : Option ℤ → ℕ → Partial → Partial
with_partial_from None key p = p
with_partial_from (Some word) key p = with_word key word p

abbrev pub with_partial : Partial → Partial → Partial
with_partial other p = with_partial_from other.value other.key p

-- the partial after what each one of a list has
abbrev pub with_partials : List Partial → Partial → Partial
with_partials [] p = p
with_partials (q ∷ qs) p = with_partials qs (with_partial q p)

-- the partials after a word for the partial at a place, where there is one
abbrev pub put_word : Option Partial → ℕ → List Partial → ℕ → ℤ → List Partial
put_word None key ps at word = ps
put_word (Some p) key ps at word = slice_set ps at (with_word key word p)

-- the partials after one emission
abbrev pub with_emission : ℕ → List Partial → Emission → List Partial
with_emission key ps e = put_word (slice_get ps e.slot) key ps e.slot e.word

-- the partials after emissions under one key
abbrev pub with_emissions : ℕ → List Partial → List Emission → List Partial
with_emissions key ps [] = ps
with_emissions key ps (e ∷ es) = with_emissions key (with_emission key ps e) es
