-- What is left of a list whose keys don't fall, chunk by chunk.
use Rattle.std.proofs.Common.{◌≡◌, ℕ, suc, ◌+◌, ◌≤◌, Bool, true, ◌&&◌, List, [], ◌∷◌, ◌++◌, map, ap, sym, subst, ◌∙◌, arith}
use Rattle.std.specs.Prelude.{nat_le, nat_lt, slice_index}
use Rattle.std.specs.List.{All, filter, range_with_len}
use Rattle.std.specs.List.Sorted.{IsNonDecreasingBy}
use Rattle.std.proofs.lemmas.Bool.Decides.{nat_tests}
use Rattle.std.proofs.lemmas.List.Elements.{All-filter, filter_agree}
use Rattle.std.proofs.lemmas.List.FromFn.{map-range_with_len_more}
use Rattle.std.proofs.lemmas.List.Kept.{IsNonDecreasingBy-filter}
use Rattle.vert_base.specs.Ends.{start_of}
use Rattle.graph_table.proofs.FilterLaws.{all_true, filter_all, filter_filter, map-append}

all_from_start : (a : ℕ) → nat_le 0 a ≡ true
all_from_start a = grind (arith, nat_tests)

-- before the first chunk all is left
pub rest_first : {X : Type 0} (key : X → ℕ) (xs : List X) → xs ≡ filter (λ x. nat_le 0 (key x)) xs
rest_first key xs = sym (filter_all (λ x. nat_le 0 (key x)) xs
    (all_true (λ x. nat_le 0 (key x) ≡ true) (λ x. all_from_start (key x)) xs))

both_from : (a b k : ℕ) → a ≤ b → (nat_le a k && nat_le b k) ≡ nat_le b k
both_from a b k le = grind (arith, nat_tests)

-- what is left after a chunk
pub rest_more : {X : Type 0} (key : X → ℕ) (a b : ℕ) (xs rest : List X) → a ≤ b →
    rest ≡ filter (λ x. nat_le a (key x)) xs → filter (λ x. nat_le b (key x)) rest ≡ filter (λ x. nat_le b (key x)) xs
rest_more key a b xs rest le is =
    ap (filter (λ x. nat_le b (key x))) is
    ∙ (filter_filter (λ x. nat_le b (key x)) (λ x. nat_le a (key x)) xs
    ∙ filter_agree (λ x. nat_le a (key x) && nat_le b (key x)) (λ x. nat_le b (key x)) (λ x. both_from a b (key x) le)
    xs)

-- the part of what is left that lies in the next chunk
pub part_of_rest : {X : Type 0} (key : X → ℕ) (a b : ℕ) (xs rest : List X) → rest ≡ filter (λ x. nat_le a (key x)) xs
    → filter (λ x. nat_lt (key x) b) rest ≡ filter (λ x. nat_le a (key x) && nat_lt (key x) b) xs
part_of_rest key a b xs rest is = ap (filter (λ x. nat_lt (key x) b)) is
    ∙ filter_filter (λ x. nat_lt (key x) b) (λ x. nat_le a (key x)) xs

pub rest_rises : {X : Type 0} (key : X → ℕ) (p : X → Bool) (xs rest : List X) → rest ≡ filter p xs →
    IsNonDecreasingBy key xs → IsNonDecreasingBy key rest
rest_rises {X} key p xs rest is up = subst (λ (ys : List X). IsNonDecreasingBy key ys) (sym is)
    (IsNonDecreasingBy-filter key p xs up)

pub rest_all : {X : Type 0} (P : X → Type 0) (p : X → Bool) (xs rest : List X) → rest ≡ filter p xs → All P xs →
    All P rest
rest_all {X} P p xs rest is all = subst (λ (ys : List X). All P ys) (sym is) (All-filter p P xs all)

-- one more list
module _ {X Y : Type 0} (view : X → Y) (f : ℕ → Y) (k : ℕ) (lists new : List X) (x : X) where
  pub map_push : map view lists ≡ map f (range_with_len 0 k) → new ≡ lists ++ x ∷ [] → view x ≡ f k →
      map view new ≡ map f (range_with_len 0 (k + 1))
  map_push so_far is here =
      ap (map view) is
      ∙ (map-append view lists (x ∷ [])
      ∙ (ap (λ ys. ys ++ view x ∷ []) so_far
      ∙ (ap (λ y. map f (range_with_len 0 k) ++ y ∷ []) here
      ∙ sym (map-range_with_len_more f 0 k k (omega arith)))))

-- the next chunk begins where this one ends
pub start_next : (ends : List ℕ) (k : ℕ) → start_of ends (k + 1) ≡ slice_index ends k
start_next ends k = let e : k + 1 ≡ suc k = omega arith in ap (start_of ends) e
