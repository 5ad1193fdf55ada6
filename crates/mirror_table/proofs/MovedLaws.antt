-- What two orders of some edges of a chunk leave as it was.
use Rattle.std.proofs.Common.{◌≡◌, ℕ, ◌<◌, Bool, true, false, ◌&&◌, ◌||◌, List, [], ◌∷◌, length, ap, sym, ◌∙◌, ⊎_elim}
use Rattle.std.specs.Prelude.{◌==◌}
use Rattle.std.specs.List.{AllByRecursion, filter, list_any, range_with_len}
use Rattle.std.specs.List.Sorted.{IsPermutation}
use Rattle.std.proofs.lemmas.Bool.{cases_Bool, eqb-true}
use Rattle.std.proofs.lemmas.List.Elements.{All-from_recursion, filter_agree, recursion_from_All}
use Rattle.std.proofs.lemmas.List.Sorted.{All-permutation, IsPermutation-trans, length_permutation, list_any-IsPermutation}
use Rattle.vert_base.specs.Neighbours.{in_order}
use Rattle.graph_table.proofs.OrderLaws.{filter-in_order}
use Rattle.graph_table.proofs.FilterLaws.{all_filter, filter_filter}
use Rattle.mirror_table.proofs.OrderPermutations.{in_order_moves}

-- the numbers below n that are the key of an element
abbrev pub keys_in : {X : Type 0} → (X → ℕ) → ℕ → List X → List ℕ
keys_in key n xs = filter (λ v. list_any (λ x. key x == v) xs) (range_with_len 0 n)

module _ {X : Type 0} (major minor : X → ℕ) (n : ℕ) where
  abbrev ordered : List X → List X
  ordered xs = in_order major n (in_order minor n xs)

  pub two_moves : (xs : List X) → AllByRecursion (λ x. major x < n) xs → AllByRecursion (λ x. minor x < n) xs →
      IsPermutation xs (in_order major n (in_order minor n xs))
  two_moves xs low_major low_minor =
      let once : IsPermutation xs (in_order minor n xs) = in_order_moves minor n xs low_minor in
      let low : AllByRecursion (λ x. major x < n) (in_order minor n xs) =
      recursion_from_All (λ x. major x < n) (in_order minor n xs)
      (All-permutation (λ x. major x < n) xs (in_order minor n xs) once
      (All-from_recursion (λ x. major x < n) xs low_major)) in
      IsPermutation-trans xs (in_order minor n xs) (ordered xs) once (in_order_moves major n (in_order minor n xs) low)

  pub two_filter : (p : X → Bool) (xs : List X) → filter p (in_order major n (in_order minor n xs))
      ≡ in_order major n (in_order minor n (filter p xs))
  two_filter p xs = filter-in_order p major n (in_order minor n xs)
      ∙ ap (in_order major n) (filter-in_order p minor n xs)

  pub two_length : (xs : List X) → AllByRecursion (λ x. major x < n) xs → AllByRecursion (λ x. minor x < n) xs →
      length (in_order major n (in_order minor n xs)) ≡ length xs
  two_length xs low_major low_minor = length_permutation xs (ordered xs) (two_moves xs low_major low_minor)

  -- a count of some elements
  pub two_count : (p : X → Bool) (xs : List X) → AllByRecursion (λ x. major x < n) xs →
      AllByRecursion (λ x. minor x < n) xs → length (filter p (in_order major n (in_order minor n xs)))
      ≡ length (filter p xs)
  two_count p xs low_major low_minor =
      ap length (two_filter p xs) ∙ two_length (filter p xs) (all_filter (λ x. major x < n) p xs low_major)
      (all_filter (λ x. minor x < n) p xs low_minor)

  -- the keys of some elements, where a first test passes each of them
  pub two_keys : (key : X → ℕ) (q s : X → Bool) (xs : List X) → ((x : X) → (s x && q x) ≡ q x) →
      AllByRecursion (λ x. major x < n) xs → AllByRecursion (λ x. minor x < n) xs →
      keys_in key n (filter q (in_order major n (in_order minor n (filter s xs)))) ≡ keys_in key n (filter q xs)
  two_keys key q s xs agree low_major low_minor =
      let kept : filter q (filter s xs) ≡ filter q xs = filter_filter q s xs
      ∙ filter_agree (λ x. s x && q x) q agree xs in
      let same : filter q (ordered (filter s xs)) ≡ ordered (filter q xs) = two_filter q (filter s xs)
      ∙ ap ordered kept in
      let moved : IsPermutation (filter q xs) (ordered (filter q xs)) =
      two_moves (filter q xs) (all_filter (λ x. major x < n) q xs low_major)
      (all_filter (λ x. minor x < n) q xs low_minor) in
      ap (keys_in key n) same
      ∙ filter_agree (λ v. list_any (λ x. key x == v) (ordered (filter q xs))) (λ v.
      list_any (λ x. key x == v) (filter q xs))
      (λ v. sym (list_any-IsPermutation (λ x. key x == v) (filter q xs) (ordered (filter q xs)) moved))
      (range_with_len 0 n)

-- a number that is a key passes what all keys pass
pub passes_from_any : {X : Type 0} (key : X → ℕ) (test : ℕ → Bool) (v : ℕ) (xs : List X) →
    AllByRecursion (λ x. test (key x) ≡ true) xs → list_any (λ x. key x == v) xs ≡ true → test v ≡ true
passes_from_any key test v [] all h = cc
passes_from_any key test v (x ∷ xs) all h =
    ⊎_elim
    (λ (here : (key x == v) ≡ true). ap test (sym (eqb-true (key x) v here)) ∙ all.0)
    (λ (other : (key x == v) ≡ false). passes_from_any key test v xs all.1
    (sym (ap (λ b. b || list_any (λ x. key x == v) xs) other) ∙ h))
    (cases_Bool (key x == v))
