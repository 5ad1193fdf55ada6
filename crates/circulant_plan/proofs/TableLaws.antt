-- The k-th element of the lists of the table.
use Rattle.std.proofs.Common.{◌≡◌, ℕ, zero, suc, ◌+◌, ◌-◌, ◌*◌, ◌/◌, ◌%◌, ◌<◌, ◌≤◌, List, [], ◌∷◌, ◌++◌, length, Some, None, refl, ap, ◌∙◌, arith, slice_get}
use Rattle.std.specs.List.{flat_map, range_with_len}
use Rattle.std.proofs.lemmas.List.FromFn.{length-range_with_len}
use Rattle.std.proofs.lemmas.Option.{slice_get_past}
use Rattle.circulant_plan.specs.Names.{update_name}
use Rattle.circulant_plan.specs.Ring.{order_of}
use Rattle.circulant_plan.specs.Table.{others_of, updates_to}

slice_get-append_left : {X : Type 0} (xs ys : List X) (k : ℕ) → k < length xs → slice_get (xs ++ ys) k ≡ slice_get xs k
slice_get-append_left [] ys k lt = absurd (omega arith)
slice_get-append_left (x ∷ xs) ys zero lt = refl
slice_get-append_left (x ∷ xs) ys (suc k) lt = slice_get-append_left xs ys k (omega arith)

slice_get-append_right : {X : Type 0} (xs ys : List X) (k i : ℕ) → length xs + i ≡ k →
    slice_get (xs ++ ys) k ≡ slice_get ys i
slice_get-append_right [] ys k i e = let same : k ≡ i = omega arith in ap (slice_get ys) same
slice_get-append_right (x ∷ xs) ys zero i e = absurd (omega arith)
slice_get-append_right (x ∷ xs) ys (suc k) i e = slice_get-append_right xs ys k i (omega arith)

slice_get-range_with_len : (a n i j : ℕ) → i < n → a + i ≡ j → slice_get (range_with_len a n) i ≡ Some j
slice_get-range_with_len a zero i j lt e = absurd (omega arith)
slice_get-range_with_len a (suc n) zero j lt e = let same : a ≡ j = omega arith in ap Some same
slice_get-range_with_len a (suc n) (suc i) j lt e = slice_get-range_with_len (a + 1) n i j (omega arith) (omega arith)

pub other_below : (p m k : ℕ) → k < m → slice_get (others_of p m) k ≡ Some k
other_below p m k lt =
    let inside : k < length (range_with_len 0 m) = omega (arith, length-range_with_len 0 m) in
    slice_get-append_left (range_with_len 0 m) (range_with_len (m + 1) (p - 1 - m)) k inside
    ∙ slice_get-range_with_len 0 m k k lt (omega arith)

pub other_above : (p m k : ℕ) → m ≤ k → k < p - 1 → slice_get (others_of p m) k ≡ Some (k + 1)
other_above p m k ge lt =
    let at : length (range_with_len 0 m) + (k - m) ≡ k = omega (arith, length-range_with_len 0 m) in
    slice_get-append_right (range_with_len 0 m) (range_with_len (m + 1) (p - 1 - m)) k (k - m) at
    ∙ slice_get-range_with_len (m + 1) (p - 1 - m) (k - m) (k + 1) (omega arith) (omega arith)

pub other_past : (p m k : ℕ) → m < p → p - 1 ≤ k → slice_get (others_of p m) k ≡ None
other_past p m k within ge =
    let at : length (range_with_len 0 m) + (k - m) ≡ k = omega (arith, length-range_with_len 0 m) in
    slice_get-append_right (range_with_len 0 m) (range_with_len (m + 1) (p - 1 - m)) k (k - m) at
    ∙ slice_get_past (range_with_len (m + 1) (p - 1 - m)) (k - m)
    (omega (arith, length-range_with_len (m + 1) (p - 1 - m)))

-- two elements for each number
module _ {X : Type 0} (f : ℕ → ℕ → X) (j : ℕ) where
  pairs_get : (a n k s h : ℕ) → k ≡ 2 * s + h → (h < 2) × (s < n) → a + s ≡ j →
      slice_get (flat_map (λ i. f i 0 ∷ f i 1 ∷ []) (range_with_len a n)) k ≡ Some (f j h)
  pairs_get a zero k s h e within at = absurd (omega arith)
  pairs_get a (suc n) zero zero zero e within at = let same : a ≡ j = omega arith in ap (λ q. Some (f q 0)) same
  pairs_get a (suc n) zero zero (suc h) e within at = absurd (omega arith)
  pairs_get a (suc n) zero (suc s) h e within at = absurd (omega arith)
  pairs_get a (suc n) (suc zero) zero zero e within at = absurd (omega arith)
  pairs_get a (suc n) (suc zero) zero (suc zero) e within at =
      let same : a ≡ j = omega arith in ap (λ q. Some (f q 1)) same
  pairs_get a (suc n) (suc zero) zero (suc (suc h)) e within at = absurd (omega arith)
  pairs_get a (suc n) (suc zero) (suc s) h e within at = absurd (omega arith)
  pairs_get a (suc n) (suc (suc k)) zero h e within at = absurd (omega arith)
  pairs_get a (suc n) (suc (suc k)) (suc s) h e within at =
      pairs_get (a + 1) n k s h (omega arith) (within.0, omega arith) (omega arith)

pub pairs_length : {X : Type 0} (f : ℕ → ℕ → X) (a n : ℕ) →
    length (flat_map (λ i. f i 0 ∷ f i 1 ∷ []) (range_with_len a n)) ≡ 2 * n
pairs_length f a zero = refl
pairs_length f a (suc n) = omega (arith, pairs_length f (a + 1) n)

pub update_at : (p r m k : ℕ) → k < 2 * (p - 1) →
    slice_get (updates_to p r m) k ≡ Some (update_name r (k / 2) (k % 2) (order_of m (k / 2) p) m)
update_at p r m k lt =
    let q : k ≡ 2 * (k / 2) + k % 2 = omega arith in
    let small : k % 2 < 2 = omega arith in
    let low : k / 2 < p - 1 = omega arith in
    pairs_get (λ s h. update_name r s h (order_of m s p) m) (k / 2) 0 (p - 1) k (k / 2) (k % 2) q (small, low)
    (omega arith)

pub update_past : (p r m k : ℕ) → 2 * (p - 1) ≤ k → slice_get (updates_to p r m) k ≡ None
update_past p r m k ge =
    slice_get_past (updates_to p r m) k
    (omega (arith, pairs_length (λ s h. update_name r s h (order_of m s p) m) 0 (p - 1)))
