-- What the environments of a round have.
use Rattle.std.proofs.Common.{◌≡◌, ℕ, ℤ, ◌+◌, ◌<◌, List, [], ◌++◌, ◌∷◌, map, length, take, get_or, sym, ap, ◌∙◌, append-nil, Option, arith}
use Rattle.std.specs.List.{flat_map, range_with_len}
use Rattle.std.proofs.lemmas.Grind.{flat_map-append}
use Rattle.std.proofs.lemmas.List.{take_more}
use Rattle.std.proofs.lemmas.List.FromFn.{map-range_with_len_more}
use Rattle.vert_tree.specs.declared.program.Program.{Program}
use Rattle.vert_tree.specs.Places.{Counts, round_counts}
use Rattle.slot_merge.specs.declared.partial.Partial.{Partial}
use Rattle.slot_merge.specs.Combine.{Emission}
use Rattle.slot_merge.specs.Partials.{with_emissions}
use Rattle.slot_merge.proofs.SlotLaws.{with_emissions-append}
use Rattle.vert_eval.specs.Values.{counts_of}
use Rattle.vert_eval.specs.Rounds.{Scene, env_at, row_at}

abbrev shape : ℕ → ℕ → ℕ → Counts
shape fields slots totals = record {
  fields = fields;
  locals = 0;
  sends = 0;
  slots = slots;
  totals = totals;
  other_fields = fields;
}

-- how many words the environment of a vertex has
pub counts_at :
    (s : Scene) (p : Program) (v : ℕ) (slots : List (Option ℤ)) →
    length (row_at s.rows v).words.items ≡ length p.fields.items →
    length slots ≡ length p.slots.items →
    length s.totals ≡ length p.totals.items →
    counts_of (env_at s v slots) ≡ round_counts p
counts_at s p v slots e h k = λ i. shape (e i) (h i) (k i)

-- the partials after one member more
pub emitted_more :
    {X : Type 0} (f : X → List Emission) (xs : List X) (i : ℕ) (x : X) (ps qs rs : List Partial) →
    i < length xs →
    x ≡ get_or xs i x →
    qs ≡ with_emissions 0 ps (flat_map f (take i xs)) →
    rs ≡ with_emissions 0 qs (f x) →
    rs ≡ with_emissions 0 ps (flat_map f (take (i + 1) xs))
emitted_more f xs i x ps qs rs lt is before more =
    let begun = flat_map f (take i xs) in
    let next : flat_map f (take (i + 1) xs) ≡ begun ++ f x =
    ap (flat_map f) (take_more xs i x lt)
    ∙ flat_map-append f (take i xs) (get_or xs i x ∷ [])
    ∙ ap (λ es. begun ++ es) (append-nil (f (get_or xs i x)))
    ∙ ap (λ y. begun ++ f y) (sym is) in
    more
    ∙ ap (λ l. with_emissions 0 l (f x)) before
    ∙ sym (with_emissions-append 0 ps begun (f x))
    ∙ ap (with_emissions 0 ps) (sym next)

-- one element more of a list made by the number
pub one_more : {X : Type 0} (f : ℕ → X) (v : ℕ) (xs more : List X) (x : X) → xs ≡ map f (range_with_len 0 v) →
    x ≡ f v → more ≡ xs ++ x ∷ [] → more ≡ map f (range_with_len 0 (v + 1))
one_more f v xs more x e here h =
    h ∙ ap (λ y. xs ++ y ∷ []) here ∙ ap (λ l. l ++ f v ∷ []) e ∙ sym (map-range_with_len_more f 0 v v (omega arith))
