-- Partials by their buckets: one word more, emissions under one key, and the value.
use Rattle.std.proofs.Common.{◌≡◌, ◌≤◌, ◌<◌, ◌+◌, ℕ, zero, suc, ℤ, Bool, true, false, List, [], ◌∷◌, ◌++◌, map, filter, refl, sym, ap, subst, ◌∙◌, arith, append-nil, append_assoc, cond}
use Rattle.std.specs.Prelude.{◌==◌, if◌then◌else◌}
use Rattle.std.specs.List.{flat_map, range_with_len}
use Rattle.std.proofs.lemmas.Grind.{flat_map-append}
use Rattle.std.proofs.lemmas.List.{map-append}
use Rattle.vert_base.specs.declared.value.Combine.{Combine}
use Rattle.vert_base.specs.Neighbours.{in_order}
use Rattle.slot_merge.specs.declared.partial.Partial.{Partial}
use Rattle.slot_merge.specs.Combine.{Emission, combined, words_for}
use Rattle.slot_merge.specs.Filled.{AreFilled, BeginsEmpty, Filled, FillsEmissions, FillsMore, HasValue, one_more, under_key, with_more}
use Rattle.slot_merge.specs.Partials.{above, empty_partial, with_word, with_words}
use Rattle.slot_merge.proofs.OrderLaws.{ordered-below}
use Rattle.slot_merge.proofs.PartialLaws.{added_in_any_order}
use Rattle.slot_merge.proofs.SlotLaws.{spread, spread_is, with_each}

-- ---- one word more
with_words-append : (ws vs : List (ℕ × ℤ)) (p : Partial) → with_words (ws ++ vs) p ≡ with_words vs (with_words ws p)
with_words-append [] vs p = refl
with_words-append (w ∷ ws) vs p = with_words-append ws vs (with_word w.0 w.1 p)

above-append : (ws : List (ℕ × ℤ)) (key : ℕ) (word : ℤ) (bound : ℕ) → above ws ≤ bound → key < bound →
    above (ws ++ (key, word) ∷ []) ≤ bound
above-append [] key word bound low lt = omega arith
above-append (w ∷ ws) key word bound low lt =
    let rest : above ws ≤ bound = omega arith in
    let more = above-append ws key word bound rest lt in
    omega arith

both_ways : (b c : Bool) (w : ℤ) (x y z : List ℤ) → x ≡ cond c y z →
    cond b (w ∷ x) x ≡ cond c (cond b (w ∷ y) y) (cond b (w ∷ z) z)
both_ways true true w x y z e = ap (λ l. w ∷ l) e
both_ways true false w x y z e = ap (λ l. w ∷ l) e
both_ways false true w x y z e = e
both_ways false false w x y z e = e

pulled : (b : Bool) (w : ℕ × ℤ) (ws : List (ℕ × ℤ)) →
    map (λ (v : ℕ × ℤ). v.1) (cond b (w ∷ ws) ws) ≡ cond b (w.1 ∷ map (λ (v : ℕ × ℤ). v.1) ws)
    (map (λ (v : ℕ × ℤ). v.1) ws)
pulled true w ws = refl
pulled false w ws = refl

behind : (b : Bool) (w x : ℤ) (xs : List ℤ) → cond b (w ∷ xs) xs ++ x ∷ [] ≡ cond b (w ∷ (xs ++ x ∷ [])) (xs ++ x ∷ [])
behind true w x xs = refl
behind false w x xs = refl

under_key-cons : (k : ℕ) (w : ℕ × ℤ) (ws : List (ℕ × ℤ)) →
    under_key k (w ∷ ws) ≡ cond (w.0 == k) (w.1 ∷ under_key k ws) (under_key k ws)
under_key-cons k w ws = pulled (w.0 == k) w (filter (λ (v : ℕ × ℤ). v.0 == k) ws)

under_key-append : (k key : ℕ) (word : ℤ) (ws : List (ℕ × ℤ)) →
    under_key k (ws ++ (key, word) ∷ []) ≡ cond (key == k) (under_key k ws ++ word ∷ []) (under_key k ws)
under_key-append k key word [] = under_key-cons k (key, word) []
under_key-append k key word (w ∷ ws) =
    let us = under_key k ws in
    under_key-cons k w (ws ++ (key, word) ∷ [])
    ∙ both_ways (w.0 == k) (key == k) w.1 (under_key k (ws ++ (key, word) ∷ [])) (us ++ word ∷ []) us
    (under_key-append k key word ws)
    ∙ ap (λ l. cond (key == k) l (cond (w.0 == k) (w.1 ∷ us) us)) (sym (behind (w.0 == k) w.1 word us))
    ∙ sym (ap (λ l. cond (key == k) (l ++ word ∷ []) l) (under_key-cons k w ws))

pub begins_empty : BeginsEmpty
begins_empty op bound = record { words = []; is = refl; each = λ key. refl; low = omega arith }

pub fills_more : FillsMore
fills_more op bucket bound key word q lt f = record {
  words = f.words ++ (key, word) ∷ [];
  is = ap (with_word key word) f.is ∙ sym (with_words-append f.words ((key, word) ∷ []) (empty_partial op));
  each = λ k. under_key-append k key word f.words ∙ ap (λ l. if key == k then l ++ word ∷ [] else l) (f.each k);
  low = above-append f.words key word bound f.low lt;
}

-- ---- emissions under one key
filled_same : (op : Combine) (bucket other : ℕ → List ℤ) (bound : ℕ) (q : Partial) →
    ((k : ℕ) → bucket k ≡ other k) → Filled op bucket bound q → Filled op other bound q
filled_same op bucket other bound q same f =
    record { words = f.words; is = f.is; each = λ k. f.each k ∙ same k; low = f.low }

more_none : (b : Bool) (xs : List ℤ) → xs ≡ (if b then xs ++ [] else xs)
more_none true xs = sym (append-nil xs)
more_none false xs = refl

more_cons : (b : Bool) (word : ℤ) (xs words : List ℤ) →
    (if b then (if b then xs ++ word ∷ [] else xs) ++ words else (if b then xs ++ word ∷ [] else xs)) ≡
    (if b then xs ++ word ∷ words else xs)
more_cons true word xs words = append_assoc xs (word ∷ []) words
more_cons false word xs words = refl

fills_each : (op : Combine) (bucket : ℕ → List ℤ) (bound key : ℕ) (words : List ℤ) (q : Partial) → key < bound →
    Filled op bucket bound q → Filled op (with_more bucket key words) bound (with_each key words q)
fills_each op bucket bound key [] q lt f =
    filled_same op bucket (with_more bucket key []) bound q (λ k. more_none (key == k) (bucket k)) f
fills_each op bucket bound key (word ∷ words) q lt f =
    let next = with_word key word q in
    filled_same op (with_more (one_more bucket key word) key words) (with_more bucket key (word ∷ words)) bound
    (with_each key words next)
    (λ k. more_cons (key == k) word (bucket k) words)
    (fills_each op (one_more bucket key word) bound key words next lt (fills_more op bucket bound key word q lt f))

module _ (buckets : ℕ → ℕ → List ℤ) (bound key : ℕ) (es : List Emission) where
  fills_spread : (at : ℕ) (ops : List Combine) (qs : List Partial) → key < bound →
      AreFilled at ops buckets bound qs →
      AreFilled at ops (λ slot. with_more (buckets slot) key (words_for slot es)) bound (spread key at qs es)
  fills_spread at [] [] lt f = f
  fills_spread at [] (q ∷ qs) lt f = absurd f
  fills_spread at (op ∷ ops) [] lt f = absurd f
  fills_spread at (op ∷ ops) (q ∷ qs) lt f = (
    fills_each op (buckets at) bound key (words_for at es) q lt f.0,
    fills_spread (at + 1) ops qs lt f.1,
  )

pub fills_emissions : FillsEmissions
fills_emissions ops buckets bound key es qs lt f =
    let more : ℕ → ℕ → List ℤ = λ slot. with_more (buckets slot) key (words_for slot es) in
    subst (AreFilled 0 ops more bound) (sym (spread_is key qs es)) (fills_spread buckets bound key es 0 ops qs lt f)

-- ---- the value
range_from : (a n d : ℕ) → a + n ≡ d → range_with_len a (n + 1) ≡ range_with_len a n ++ d ∷ []
range_from a zero d e = let same : a ≡ d = omega arith in rw same refl
range_from a (suc n) d e =
    let next : a + 1 + n ≡ d = omega arith in
    let one : suc n + 1 ≡ suc (n + 1) = omega arith in
    rw one (ap (λ l. a ∷ l) (range_from (a + 1) n d next))

range_more : {X : Type 0} (f : ℕ → List X) (n : ℕ) →
    flat_map f (range_with_len 0 (n + 1)) ≡ flat_map f (range_with_len 0 n) ++ f n
range_more f n =
    ap (flat_map f) (range_from 0 n n (omega arith))
    ∙ flat_map-append f (range_with_len 0 n) (n ∷ [])
    ∙ ap (λ l. flat_map f (range_with_len 0 n) ++ l) (append-nil (f n))

-- the words in the order of keys, bucket by bucket
by_buckets : (n : ℕ) (ws : List (ℕ × ℤ)) →
    map (λ w. w.1) (in_order (λ w. w.0) n ws) ≡ flat_map (λ k. under_key k ws) (range_with_len 0 n)
by_buckets zero ws = refl
by_buckets (suc n) ws =
    map-append (λ (w : ℕ × ℤ). w.1) (in_order (λ w. w.0) n ws) (filter (λ w. w.0 == n) ws)
    ∙ ap (λ l. l ++ under_key n ws) (by_buckets n ws)
    ∙ sym (ap (λ k. flat_map (λ j. under_key j ws) (range_with_len 0 k)) one ∙ range_more (λ k. under_key k ws) n)
  where
    one : suc n ≡ n + 1
    one = omega arith

flat_map_same : {X : Type 0} (f g : ℕ → List X) (xs : List ℕ) → ((k : ℕ) → f k ≡ g k) → flat_map f xs ≡ flat_map g xs
flat_map_same f g [] same = refl
flat_map_same f g (x ∷ xs) same = ap (λ l. l ++ flat_map f xs) (same x) ∙ ap (λ l. g x ++ l) (flat_map_same f g xs same)

pub has_value : HasValue
has_value op bucket bound q f =
    ap (λ p. p.value) f.is
    ∙ added_in_any_order op f.words
    ∙ ap (combined op)
    (sym (ordered-below bound f.words f.low)
    ∙ by_buckets bound f.words
    ∙ flat_map_same (λ k. under_key k f.words) bucket (range_with_len 0 bound) f.each)
