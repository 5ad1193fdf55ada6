-- The partials after emissions under one key are the combined words of each slot.
use Rattle.std.proofs.Common.{◌≡◌, ℕ, ℤ, zero, suc, ◌+◌, ◌<◌, cond, List, [], ◌∷◌, ◌++◌, map, length, fold, filter, refl, sym, ap, ◌∙◌, arith, slice_get, ◌==◌, Option, Some, None}
use Rattle.std.proofs.lemmas.Bool.{eq-eqb, ne_eqb, le-ltb}
use Rattle.vert_base.specs.declared.value.Combine.{Combine}
use Rattle.vert_base.specs.declared.value.Combine.TheVariants.{Min, Max, Sum, First}
use Rattle.slot_merge.specs.declared.partial.Partial.{Partial}
use Rattle.slot_merge.specs.Combine.{Emission, combined_of, combined, words_for, slot_values}
use Rattle.slot_merge.specs.Partials.{empty_partial, keyed, with_word, put_word, with_emission, with_emissions}

-- a partial after several words under one key
abbrev pub with_each : ℕ → List ℤ → Partial → Partial
with_each key [] p = p
with_each key (x ∷ xs) p = with_each key xs (with_word key x p)

-- the partials from a number on, each after its words
abbrev pub spread : ℕ → ℕ → List Partial → List Emission → List Partial
spread key at [] es = []
spread key at (p ∷ ps) es = with_each key (words_for at es) p ∷ spread key (at + 1) ps es

words_here : (at : ℕ) (e : Emission) (es : List Emission) → e.slot ≡ at →
    words_for at (e ∷ es) ≡ e.word ∷ words_for at es
words_here at e es h =
    ap (λ b. map (λ x. x.word) (cond b (e ∷ filter (λ x. x.slot == at) es) (filter (λ x. x.slot == at) es)))
    (eq-eqb e.slot at h)

words_elsewhere : (at : ℕ) (e : Emission) (es : List Emission) → (e.slot ≡ at → ⊥) →
    words_for at (e ∷ es) ≡ words_for at es
words_elsewhere at e es h =
    ap (λ b. map (λ x. x.word) (cond b (e ∷ filter (λ x. x.slot == at) es) (filter (λ x. x.slot == at) es)))
    (ne_eqb e.slot at h)

spread-nil : (key at : ℕ) (ps : List Partial) → spread key at ps [] ≡ ps
spread-nil key at [] = refl
spread-nil key at (p ∷ ps) = ap (λ qs. p ∷ qs) (spread-nil key (at + 1) ps)

-- an emission to an earlier slot changes nothing
spread_past : (key at : ℕ) (ps : List Partial) (e : Emission) (es : List Emission) → e.slot < at →
    spread key at ps (e ∷ es) ≡ spread key at ps es
spread_past key at [] e es h = refl
spread_past key at (p ∷ ps) e es h =
    ap (λ ws. with_each key ws p ∷ spread key (at + 1) ps (e ∷ es)) (words_elsewhere at e es (λ s. omega arith))
    ∙ ap (λ qs. with_each key (words_for at es) p ∷ qs) (spread_past key (at + 1) ps e es (omega arith))

-- the partials after a word at a place
abbrev put_at : ℕ → List Partial → ℕ → ℤ → List Partial
put_at key ps j x = put_word (slice_get ps j) key ps j x

put_at-suc : (o : Option Partial) (key : ℕ) (p : Partial) (ps : List Partial) (j : ℕ) (x : ℤ) →
    put_word o key (p ∷ ps) (suc j) x ≡ p ∷ put_word o key ps j x
put_at-suc None key p ps j x = refl
put_at-suc (Some q) key p ps j x = refl

spread_put : (key at j : ℕ) (ps : List Partial) (e : Emission) (es : List Emission) → e.slot ≡ at + j →
    spread key at (put_at key ps j e.word) es ≡ spread key at ps (e ∷ es)
spread_put key at j [] e es h = refl
spread_put key at zero (p ∷ ps) e es h =
    ap (λ ws. with_each key ws p ∷ spread key (at + 1) ps es) (sym (words_here at e es (omega arith)))
    ∙ ap (λ qs. with_each key (words_for at (e ∷ es)) p ∷ qs) (sym (spread_past key (at + 1) ps e es (omega arith)))
spread_put key at (suc j) (p ∷ ps) e es h =
    ap (λ qs. spread key at qs es) (put_at-suc (slice_get ps j) key p ps j e.word)
    ∙ ap (λ ws. with_each key ws p ∷ spread key (at + 1) (put_at key ps j e.word) es)
    (sym (words_elsewhere at e es (λ s. omega arith)))
    ∙ ap (λ qs. with_each key (words_for at (e ∷ es)) p ∷ qs) (spread_put key (at + 1) j ps e es (omega arith))

pub spread_is : (key : ℕ) (ps : List Partial) (es : List Emission) → with_emissions key ps es ≡ spread key 0 ps es
spread_is key ps [] = sym (spread-nil key 0 ps)
spread_is key ps (e ∷ es) = spread_is key (with_emission key ps e) es ∙ spread_put key 0 e.slot ps e es (omega arith)

-- the words after the first
value_after : (key : ℕ) (op : Combine) (y : ℤ) (xs : List ℤ) →
    (with_each key xs (record { op = op; key = keyed op 0 key; value = Some y })).value ≡ Some
    (fold (combined_of op) y xs)
value_after key op y [] = refl
value_after key Min y (x ∷ xs) = value_after key Min (combined_of Min y x) xs
value_after key Max y (x ∷ xs) = value_after key Max (combined_of Max y x) xs
value_after key Sum y (x ∷ xs) = value_after key Sum (combined_of Sum y x) xs
value_after key First y (x ∷ xs) =
    let p : Partial = record { op = First; key = key; value = Some y } in
    let later : Partial = record { op = First; key = key; value = Some x } in
    ap (λ b. (with_each key xs (cond b later p)).value) (le-ltb key key (omega arith)) ∙ value_after key First y xs

combined_is : (key : ℕ) (op : Combine) (xs : List ℤ) → (with_each key xs (empty_partial op)).value ≡ combined op xs
combined_is key op [] = refl
combined_is key op (x ∷ xs) = value_after key op x xs

values_are : (key at : ℕ) (ops : List Combine) (es : List Emission) →
    map (λ p. p.value) (spread key at (map empty_partial ops) es) ≡ slot_values at ops es
values_are key at [] es = refl
values_are key at (op ∷ ops) es =
    ap (λ v. v ∷ map (λ p. p.value) (spread key (at + 1) (map empty_partial ops) es))
    (combined_is key op (words_for at es))
    ∙ ap (λ vs. combined op (words_for at es) ∷ vs) (values_are key (at + 1) ops es)

-- what stands in the partials after emissions under one key
pub slot_values_are : (key : ℕ) (ops : List Combine) (es : List Emission) →
    map (λ p. p.value) (with_emissions key (map empty_partial ops) es) ≡ slot_values 0 ops es
slot_values_are key ops es =
    ap (map (λ p. p.value)) (spread_is key (map empty_partial ops) es) ∙ values_are key 0 ops es

pub length-slot_values : (at : ℕ) (ops : List Combine) (es : List Emission) →
    length (slot_values at ops es) ≡ length ops
length-slot_values at [] es = refl
length-slot_values at (op ∷ ops) es = ap suc (length-slot_values (at + 1) ops es)

pub with_emissions-append : (key : ℕ) (ps : List Partial) (es more : List Emission) →
    with_emissions key ps (es ++ more) ≡ with_emissions key (with_emissions key ps es) more
with_emissions-append key ps [] more = refl
with_emissions-append key ps (e ∷ es) more = with_emissions-append key (with_emission key ps e) es more
