-- A bound above the keys of a partial, where the buckets above it are empty.
use Rattle.std.proofs.Common.{◌≡◌, ◌≤◌, ◌<◌, ◌+◌, ℕ, ℤ, Bool, true, false, List, [], ◌∷◌, map, filter, refl, sym, ap, ◌∙◌, arith, cond, ⊎_elim}
use Rattle.std.specs.Prelude.{◌==◌}
use Rattle.std.proofs.lemmas.Bool.{cases_lt, eq-eqb, ne_eqb}
use Rattle.vert_base.specs.declared.value.Combine.{Combine}
use Rattle.slot_merge.specs.declared.partial.Partial.{Partial}
use Rattle.slot_merge.specs.Filled.{AreFilled, Filled, under_key}
use Rattle.slot_merge.specs.Partials.{above}

under_first : (key : ℕ) (w : ℕ × ℤ) (ws : List (ℕ × ℤ)) (b : Bool) → (w.0 == key) ≡ b →
    under_key key (w ∷ ws) ≡ map (λ (x : ℕ × ℤ). x.1)
    (cond b (w ∷ filter (λ x. x.0 == key) ws) (filter (λ x. x.0 == key) ws))
under_first key w ws b is =
    ap (λ c. map (λ (x : ℕ × ℤ). x.1) (cond c (w ∷ filter (λ x. x.0 == key) ws) (filter (λ x. x.0 == key) ws))) is

above_low : (low : ℕ) (ws : List (ℕ × ℤ)) → ((key : ℕ) → low ≤ key → under_key key ws ≡ []) → above ws ≤ low
above_low low [] none = omega arith
above_low low (w ∷ ws) none =
    ⊎_elim
    (λ (below : w.0 < low).
    let rest : above ws ≤ low = above_low low ws
    (λ key le. sym (under_first key w ws false (ne_eqb w.0 key (λ e. omega (arith, e, below, le)))) ∙ none key le) in
    omega (arith, below, rest))
    (λ (high : low ≤ w.0).
    let some : w.1 ∷ under_key w.0 ws ≡ [] = sym (under_first w.0 w ws true (eq-eqb w.0 w.0 refl)) ∙ none w.0 high in
    absurd (filled_not some))
    (cases_lt w.0 low)
  where
    filled_not : {x : ℤ} {xs : List ℤ} → x ∷ xs ≡ [] → ⊥
    filled_not e = cc

lowered_one : (op : Combine) (bucket : ℕ → List ℤ) (bound low : ℕ) (q : Partial) →
    ((key : ℕ) → low ≤ key → bucket key ≡ []) →
    Filled op bucket bound q → Filled op bucket low q
lowered_one op bucket bound low q none f = record {
  words = f.words;
  is = f.is;
  each = f.each;
  low = above_low low f.words (λ key le. f.each key ∙ none key le);
}

pub lowered : (at : ℕ) (ops : List Combine) (buckets : ℕ → ℕ → List ℤ) (bound low : ℕ) (qs : List Partial) →
    ((place key : ℕ) → low ≤ key → buckets place key ≡ []) → AreFilled at ops buckets bound qs →
    AreFilled at ops buckets low qs
lowered at [] buckets bound low [] none are = tt
lowered at [] buckets bound low (q ∷ qs) none are = absurd are
lowered at (op ∷ ops) buckets bound low [] none are = absurd are
lowered at (op ∷ ops) buckets bound low (q ∷ qs) none are =
    (lowered_one op (buckets at) bound low q (none at) are.0, lowered (at + 1) ops buckets bound low qs none are.1)
