-- The members of a vertex, and what is made of them, in every order.
use Rattle.std.proofs.Common.{◌≡◌, ℕ, not, List, ◌++◌, IsPermutation, subst, append_assoc, nat_le, nat_lt, arith}
use Rattle.std.specs.List.{flat_map}
use Rattle.std.proofs.lemmas.List.Sorted.{IsPermutation-refl, IsPermutation-sym, IsPermutation-trans, IsPermutation-append_left, IsPermutation-append_right, IsPermutation-append_comm, IsPermutation-filter_both}
use Rattle.std.proofs.lemmas.Bool.Decides.{nat_tests}
use Rattle.vert_base.specs.declared.graph.Edge.{Edge}
use Rattle.vert_base.specs.Neighbours.{ins_of, neighbours_of, source, turn_of, turned}
use Rattle.slot_merge.proofs.Permutations.{IsKept, permutation-kept}

below_or_above : (n t : ℕ) → nat_lt n t ≡ not (nat_le t n)
below_or_above n t = grind (arith, nat_tests)

pub turned-permutation : (t : ℕ) (members : List Edge) → IsPermutation members (turned t members)
turned-permutation t members =
    IsPermutation-filter_both (λ e. nat_le t (source e)) (λ e. nat_lt (source e) t)
    (λ e. below_or_above (source e) t) members

-- the neighbours in the orders of two lists of ends
pub neighbours_of-permutation : (n : ℕ) (first second : List ℕ) (edges : List Edge) (v : ℕ) →
    IsPermutation (neighbours_of n first edges v) (neighbours_of n second edges v)
neighbours_of-permutation n first second edges v =
    let ins = ins_of n edges v in
    IsPermutation-trans (turned (turn_of first v) ins) ins (turned (turn_of second v) ins)
    (IsPermutation-sym ins (turned (turn_of first v) ins) (turned-permutation (turn_of first v) ins))
    (turned-permutation (turn_of second v) ins)

flip_parts : {Y : Type 0} (a b c : List Y) → IsPermutation (a ++ (b ++ c)) (b ++ (a ++ c))
flip_parts a b c =
    subst (λ l. IsPermutation l (b ++ (a ++ c))) (append_assoc a b c)
    (subst (λ l. IsPermutation ((a ++ b) ++ c) l) (append_assoc b a c)
    (IsPermutation-append_left c (a ++ b) (b ++ a) (IsPermutation-append_comm a b)))

pub flat_map-permutation : {X Y : Type 0} (f : X → List Y) (xs ys : List X) → IsPermutation xs ys →
    IsPermutation (flat_map f xs) (flat_map f ys)
flat_map-permutation f xs ys moved =
    permutation-kept (λ l k. IsPermutation (flat_map f l) (flat_map f k)) kept xs ys moved
  where
    kept : IsKept (λ l k. IsPermutation (flat_map f l) (flat_map f k))
    kept = record {
      same = λ l. IsPermutation-refl (flat_map f l);
      under = λ x l k h. IsPermutation-append_right (f x) (flat_map f l) (flat_map f k) h;
      flip = λ x y l. flip_parts (f x) (f y) (flat_map f l);
      both = λ l k j h g. IsPermutation-trans (flat_map f l) (flat_map f k) (flat_map f j) h g;
    }
