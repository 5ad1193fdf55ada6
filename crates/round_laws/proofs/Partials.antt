-- The partials of a vertex, by their buckets.
use Rattle.std.proofs.Common.{◌≡◌, ◌<◌, ◌+◌, ℕ, zero, suc, ℤ, Bool, true, false, List, [], ◌∷◌, ◌++◌, length, map, refl, sym, ap, subst, ◌∙◌, Option, None, Some, append-nil, arith}
use Rattle.std.specs.Prelude.{◌==◌, drop, if◌then◌else◌, option_to_list, slice_get, slice_index_or, take}
use Rattle.std.specs.List.{flat_map, range_with_len}
use Rattle.vert_base.specs.declared.value.Combine.{Combine}
use Rattle.slot_merge.specs.declared.partial.Partial.{Partial}
use Rattle.slot_merge.specs.Combine.{Emission, combined, slot_values, words_for}
use Rattle.slot_merge.specs.Filled.{AreFilled, Filled, with_more}
use Rattle.slot_merge.specs.Partials.{with_word}
use Rattle.slot_merge.proofs.FillLaws.{fills_more, has_value}
use Rattle.symple_face.specs.CoreTakes.{with_values}
use Rattle.round_laws.specs.Partials.{FillsSent}

-- with nothing more under a key
filled_still : (op : Combine) (bucket : ℕ → List ℤ) (bound key : ℕ) (words : List ℤ) (q : Partial) → words ≡ [] →
    Filled op bucket bound q → Filled op (with_more bucket key words) bound q
filled_still op bucket bound key words q none f = record {
  words = f.words;
  is = f.is;
  each = λ k. f.each k ∙ still k (key == k) ∙ ap (λ ws. with_more bucket key ws k) (sym none);
  low = f.low;
}
  where
    still : (k : ℕ) (b : Bool) → bucket k ≡ (if b then bucket k ++ [] else bucket k)
    still k true = sym (append-nil (bucket k))
    still k false = refl

module _ (op : Combine) (bucket : ℕ → List ℤ) (bound key : ℕ) (words : List ℤ) (word : ℤ) (q : Partial) where
  filled_word : key < bound → words ≡ word ∷ [] → Filled op bucket bound q →
      Filled op (with_more bucket key words) bound (with_word key word q)
  filled_word lt is f =
      subst (λ ws. Filled op (with_more bucket key ws) bound (with_word key word q)) (sym is)
      (fills_more op bucket bound key word q lt f)

-- words for some places, the first of which has this number
abbrev TellsFrom : ℕ → (ℕ → List ℤ) → List (Option ℤ) → Type 0
TellsFrom at words xs = (j : ℕ) → words (at + j) ≡ option_to_list (slice_index_or xs j None)

tells_next : (at : ℕ) (words : ℕ → List ℤ) (x : Option ℤ) (xs : List (Option ℤ)) → TellsFrom at words (x ∷ xs) →
    TellsFrom (at + 1) words xs
tells_next at words x xs tells j = let on : at + 1 + j ≡ at + suc j = omega arith in ap words on ∙ tells (suc j)

tells_none : (at : ℕ) (words : ℕ → List ℤ) → TellsFrom at words [] → TellsFrom (at + 1) words []
tells_none at words tells j = let on : at + 1 + j ≡ at + suc j = omega arith in ap words on ∙ tells (suc j)

tells_here : (at : ℕ) (words : ℕ → List ℤ) (xs : List (Option ℤ)) → TellsFrom at words xs →
    words at ≡ option_to_list (slice_index_or xs 0 None)
tells_here at words xs tells = let here : at ≡ at + 0 = omega arith in ap words here ∙ tells 0

module _ (buckets : ℕ → ℕ → List ℤ) (words : ℕ → List ℤ) (bound key : ℕ) where
  fills_values : (at : ℕ) (ops : List Combine) (xs : List (Option ℤ)) (qs : List Partial) → key < bound →
      TellsFrom at words xs → AreFilled at ops buckets bound qs →
      AreFilled at ops (λ place. with_more (buckets place) key (words place)) bound (with_values key xs qs)
  fills_values at [] [] [] lt tells are = tt
  fills_values at [] (x ∷ xs) [] lt tells are = tt
  fills_values at [] xs (q ∷ qs) lt tells are = absurd are
  fills_values at (op ∷ ops) xs [] lt tells are = absurd are
  fills_values at (op ∷ ops) [] (q ∷ qs) lt tells are = (
    filled_still op (buckets at) bound key (words at) q (tells_here at words [] tells) are.0,
    fills_values (at + 1) ops [] qs lt (tells_none at words tells) are.1,
  )
  fills_values at (op ∷ ops) (None ∷ xs) (q ∷ qs) lt tells are = (
    filled_still op (buckets at) bound key (words at) q (tells_here at words (None ∷ xs) tells) are.0,
    fills_values (at + 1) ops xs qs lt (tells_next at words None xs tells) are.1,
  )
  fills_values at (op ∷ ops) (Some x ∷ xs) (q ∷ qs) lt tells are = (
    filled_word op (buckets at) bound key (words at) x q lt (tells_here at words (Some x ∷ xs) tells) are.0,
    fills_values (at + 1) ops xs qs lt (tells_next at words (Some x) xs tells) are.1,
  )

pub fills_sent : FillsSent
fills_sent ops buckets bound key sent qs lt are =
    fills_values buckets (λ place. option_to_list (slice_index_or (sent.values ++ sent.operands) place None)) bound
    key 0 ops
    (sent.values ++ sent.operands) qs lt
    (λ j. let here : 0 + j ≡ j = omega arith in ap
    (λ k. option_to_list (slice_index_or (sent.values ++ sent.operands) k None)) here)
    are

-- ---- partials in two parts
pub filled_first : (at : ℕ) (ops more : List Combine) (buckets : ℕ → ℕ → List ℤ) (bound : ℕ) (qs : List Partial) →
    AreFilled at (ops ++ more) buckets bound qs → AreFilled at ops buckets bound (take (length ops) qs)
filled_first at [] more buckets bound qs are = tt
filled_first at (op ∷ ops) more buckets bound [] are = absurd are
filled_first at (op ∷ ops) more buckets bound (q ∷ qs) are =
    (are.0, filled_first (at + 1) ops more buckets bound qs are.1)

filled_rest : (at : ℕ) (ops more : List Combine) (buckets : ℕ → ℕ → List ℤ) (bound : ℕ) (qs : List Partial) →
    AreFilled at (ops ++ more) buckets bound qs → AreFilled (at + length ops) more buckets bound (drop (length ops) qs)
filled_rest at [] more buckets bound qs are =
    let here : at + 0 ≡ at = omega arith in
    subst (λ n. AreFilled n more buckets bound qs) (sym here) are
filled_rest at (op ∷ ops) more buckets bound [] are = absurd are
filled_rest at (op ∷ ops) more buckets bound (q ∷ qs) are =
    let on : at + 1 + length ops ≡ at + suc (length ops) = omega arith in
    subst (λ n. AreFilled n more buckets bound (drop (length ops) qs)) on
    (filled_rest (at + 1) ops more buckets bound qs are.1)

-- the values of partials whose buckets together have what was emitted to their slots
slot_values_filled : (at : ℕ) (ops : List Combine) (buckets : ℕ → ℕ → List ℤ) (bound : ℕ) (es : List Emission)
    (qs : List Partial) → AreFilled at ops buckets bound qs →
    ((j : ℕ) (op : Combine) → slice_get ops j ≡ Some op →
    combined op (flat_map (buckets (at + j)) (range_with_len 0 bound)) ≡ combined op (words_for (at + j) es)) →
    map (λ q. q.value) qs ≡ slot_values at ops es
slot_values_filled at [] buckets bound es [] are each = refl
slot_values_filled at [] buckets bound es (q ∷ qs) are each = absurd are
slot_values_filled at (op ∷ ops) buckets bound es [] are each = absurd are
slot_values_filled at (op ∷ ops) buckets bound es (q ∷ qs) are each =
    let here : at + 0 ≡ at = omega arith in
    let first : q.value ≡ combined op (words_for at es) =
    has_value op (buckets at) bound q are.0
    ∙ subst (λ k. combined op (flat_map (buckets k) (range_with_len 0 bound)) ≡ combined op (words_for k es)) here
    (each 0 op refl) in
    ap (λ o. o ∷ map (λ q. q.value) qs) first
    ∙ ap (λ os. combined op (words_for at es) ∷ os)
    (slot_values_filled (at + 1) ops buckets bound es qs are.1
    (λ j other is. let on : at + suc j ≡ at + 1 + j = omega arith in
    subst (λ k. combined other (flat_map (buckets k) (range_with_len 0 bound)) ≡ combined other (words_for k es)) on
    (each (suc j) other is)))

-- what stands at the place of a slot
slot_at : (at : ℕ) (ops : List Combine) (es : List Emission) (more : List (Option ℤ)) (j : ℕ) (op : Combine) →
    slice_get ops j ≡ Some op → slice_index_or (slot_values at ops es ++ more) j None ≡
    combined op (words_for (at + j) es)
slot_at at [] es more j op is = cc
slot_at at (o ∷ ops) es more zero op is =
    let same : o ≡ op = cc in
    let here : at ≡ at + 0 = omega arith in
    ap (λ k. combined k (words_for at es)) same ∙ ap (λ k. combined op (words_for k es)) here
slot_at at (o ∷ ops) es more (suc j) op is =
    let on : at + 1 + j ≡ at + suc j = omega arith in
    slot_at (at + 1) ops es more j op is ∙ ap (λ k. combined op (words_for k es)) on

-- and what stands behind those of the slots
pub behind_at : (xs ys : List (Option ℤ)) (n j : ℕ) → length xs ≡ n →
    slice_index_or (xs ++ ys) (n + j) None ≡ slice_index_or ys j None
behind_at [] ys n j is =
    let on : n + j ≡ j = omega arith in
    ap (λ k. slice_index_or ys k None) on
behind_at (x ∷ xs) ys zero j is = absurd (omega arith)
behind_at (x ∷ xs) ys (suc n) j is =
    let on : suc n + j ≡ suc (n + j) = omega arith in
    ap (λ k. slice_index_or (x ∷ (xs ++ ys)) k None) on ∙ behind_at xs ys n j (omega arith)

-- ---- the same from the first slot on
pub filled_behind : (ops more : List Combine) (buckets : ℕ → ℕ → List ℤ) (bound : ℕ) (qs : List Partial) →
    AreFilled 0 (ops ++ more) buckets bound qs → AreFilled (length ops) more buckets bound (drop (length ops) qs)
filled_behind ops more buckets bound qs are =
    let here : 0 + length ops ≡ length ops = omega arith in
    subst (λ n. AreFilled n more buckets bound (drop (length ops) qs)) here
    (filled_rest 0 ops more buckets bound qs are)

pub slots_filled : (ops : List Combine) (buckets : ℕ → ℕ → List ℤ) (bound : ℕ) (es : List Emission)
    (qs : List Partial) →
    AreFilled 0 ops buckets bound qs →
    ((j : ℕ) (op : Combine) → slice_get ops j ≡ Some op →
    combined op (flat_map (buckets j) (range_with_len 0 bound)) ≡ combined op (words_for j es)) →
    map (λ q. q.value) qs ≡ slot_values 0 ops es
slots_filled ops buckets bound es qs are each =
    slot_values_filled 0 ops buckets bound es qs are
    (λ j op is. let here : j ≡ 0 + j = omega arith in
    subst (λ k. combined op (flat_map (buckets k) (range_with_len 0 bound)) ≡ combined op (words_for k es)) here
    (each j op is))

pub slot_value_at : (ops : List Combine) (es : List Emission) (more : List (Option ℤ)) (j : ℕ) (op : Combine) →
    slice_get ops j ≡ Some op → slice_index_or (slot_values 0 ops es ++ more) j None ≡ combined op (words_for j es)
slot_value_at ops es more j op is =
    let here : 0 + j ≡ j = omega arith in
    slot_at 0 ops es more j op is ∙ ap (λ k. combined op (words_for k es)) here
