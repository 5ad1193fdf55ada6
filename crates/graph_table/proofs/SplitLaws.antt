-- A list whose keys don't fall, cut at a key.
use Rattle.std.proofs.Common.{◌≡◌, ℕ, zero, suc, ◌<◌, ◌≤◌, Bool, true, false, not, List, [], ◌∷◌, length, get_or, take, drop, refl, ap, sym, ◌∙◌, arith}
use Rattle.std.specs.Prelude.{nat_le, nat_lt}
use Rattle.std.specs.List.{AllByRecursion, filter}
use Rattle.std.specs.List.Sorted.{IsNonDecreasingBy, IsPartitionPoint, IsPartitionedBy}
use Rattle.std.proofs.lemmas.Bool.Decides.{nat_tests}
use Rattle.std.proofs.lemmas.List.Elements.{recursion_from_All}
use Rattle.vert_base.proofs.Orders.{Rises}
use Rattle.graph_table.proofs.FilterLaws.{filter_all, filter_none}

below_too : (a b k : ℕ) → a ≤ b → nat_lt b k ≡ true → nat_lt a k ≡ true
below_too a b k le h = grind (arith, nat_tests)

pub parted : {X : Type 0} (key : X → ℕ) (k : ℕ) (xs : List X) → IsNonDecreasingBy key xs →
    IsPartitionedBy (λ x. nat_lt (key x) k) xs
parted key k xs up = λ i j d le within h. below_too (key (get_or xs i d)) (key (get_or xs j d)) k (up i j d le within) h

pub take_point : {X : Type 0} (p : X → Bool) (xs : List X) (i : ℕ) → i ≤ length xs →
    IsPartitionPoint (λ x. p x ≡ true) (λ x. p x ≡ false) xs i → take i xs ≡ filter p xs
take_point p [] zero le h = refl
take_point p [] (suc i) le h = refl
take_point p (x ∷ xs) zero le h = sym (filter_none p (x ∷ xs)
    (recursion_from_All (λ y. p y ≡ false) (x ∷ xs) (λ k d lt. h.1 k d (omega arith) lt)))
take_point p (x ∷ xs) (suc i) le h =
    let here : p x ≡ true = h.0 zero x (omega arith) (omega arith) in
    let rest : take i xs ≡ filter p xs = take_point p xs i (omega arith) (
      λ k d low lt.
          h.0 (suc k) d (omega arith) (omega arith),
      λ k d low lt. h.1 (suc k) d (omega arith) (omega arith),
    ) in
    rw here (ap (λ ys. x ∷ ys) rest)

pub drop_point : {X : Type 0} (p q : X → Bool) (xs : List X) (i : ℕ) → ((x : X) → q x ≡ not (p x)) → i ≤ length xs →
    IsPartitionPoint (λ x. p x ≡ true) (λ x. p x ≡ false) xs i → drop i xs ≡ filter q xs
drop_point p q [] zero other le h = refl
drop_point p q [] (suc i) other le h = refl
drop_point p q (x ∷ xs) zero other le h =
    sym (filter_all q (x ∷ xs) (recursion_from_All (λ y. q y ≡ true) (x ∷ xs) (λ k d lt. other (get_or (x ∷ xs) k d)
    ∙ ap not (h.1 k d (omega arith) lt))))
drop_point p q (x ∷ xs) (suc i) other le h =
    let here : p x ≡ true = h.0 zero x (omega arith) (omega arith) in
    let out : q x ≡ false = other x ∙ ap not here in
    let rest : drop i xs ≡ filter q xs = drop_point p q xs i other (omega arith) (
      λ k d low lt.
          h.0 (suc k) d (omega arith) (omega arith),
      λ k d low lt. h.1 (suc k) d (omega arith) (omega arith),
    ) in
    rw out rest

pub not_below : (a k : ℕ) → nat_le k a ≡ not (nat_lt a k)
not_below a k = grind (arith, nat_tests)

later : {X : Type 0} (key : X → ℕ) (x : X) (xs : List X) → AllByRecursion (λ y. key x ≤ key y) xs → (j : ℕ) (d : X) →
    j < length xs → key x ≤ key (get_or xs j d)
later key x [] all j d lt = absurd (omega arith)
later key x (y ∷ ys) all zero d lt = all.0
later key x (y ∷ ys) all (suc j) d lt = later key x ys all.1 j d (omega arith)

module _ {X : Type 0} (key : X → ℕ) (x : X) (xs : List X) where
  pairs : Rises key (x ∷ xs) → IsNonDecreasingBy key xs → (i j : ℕ) (d : X) → i ≤ j → j < length (x ∷ xs) →
      key (get_or (x ∷ xs) i d) ≤ key (get_or (x ∷ xs) j d)
  pairs up more zero zero d le within = omega arith
  pairs up more zero (suc j) d le within = later key x xs up.0 j d (omega arith)
  pairs up more (suc i) zero d le within = absurd (omega arith)
  pairs up more (suc i) (suc j) d le within = more i j d (omega arith) (omega arith)

-- by index, where it is by recursion
pub by_index : {X : Type 0} (key : X → ℕ) (xs : List X) → Rises key xs → IsNonDecreasingBy key xs
by_index key [] up = λ i j d le within. absurd (omega arith)
by_index key (x ∷ xs) up = pairs key x xs up (by_index key xs up.1)
