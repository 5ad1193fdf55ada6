-- How long the lists of vertices of a part are, and how filters meet maps.
use Rattle.std.proofs.Common.{◌≡◌, ◌≤◌, ◌<◌, ◌∙◌, ℕ, zero, suc, Bool, true, false, cond, List, [], ◌∷◌, length, map, refl, sym, ap, subst, arith, get_or}
use Rattle.std.specs.Prelude.{◌==◌, if◌then◌else◌, slice_index_or}
use Rattle.std.specs.List.{filter, list_any, range_with_len}
use Rattle.std.proofs.lemmas.List.{length-map}
use Rattle.std.proofs.lemmas.List.FromFn.{get_or-map-range_with_len, length-range_with_len}
use Rattle.vert_base.specs.declared.graph.Edge.{Edge}
use Rattle.symple_face.specs.Parts.{ends_met, for_others}

-- a filter keeps no more than there is
pub filter_few : {X : Type 0} (p : X → Bool) (xs : List X) → length (filter p xs) ≤ length xs
filter_few p [] = omega arith
filter_few p (x ∷ xs) =
    let more = filter_few p xs in
    elim (p x) as (λ b. length (cond b (x ∷ filter p xs) (filter p xs)) ≤ length (x ∷ xs))
    [ true ↦ omega arith | false ↦ omega arith ]

pub length-filter-map : {X Y : Type 0} (f : X → Y) (p : Y → Bool) (xs : List X) →
    length (filter p (map f xs)) ≡ length (filter (λ x. p (f x)) xs)
length-filter-map f p [] = refl
length-filter-map f p (x ∷ xs) =
    let more = length-filter-map f p xs in
    elim (p (f x)) as (λ b. length (cond b (f x ∷ filter p (map f xs)) (filter p (map f xs)))
    ≡ length (cond b (x ∷ filter (λ x. p (f x)) xs) (filter (λ x. p (f x)) xs)))
    [ true ↦ omega arith | false ↦ more ]

-- no more vertices are met than there are
pub ends_met_few : (end : Edge → ℕ) (n : ℕ) (edges : List Edge) → length (ends_met end n edges) ≤ n
ends_met_few end n edges = omega (
  arith,
  length-range_with_len 0 n,
  filter_few (λ v. list_any (λ e. end e == v) edges) (range_with_len 0 n),
)

-- an entry of lists for machines is as short as each of them
at_few : (most : ℕ) (f : ℕ → List ℕ) → ((k : ℕ) → length (f k) ≤ most) → (ks : List ℕ) (i : ℕ) →
    length (get_or (map f ks) i []) ≤ most
at_few most f few [] i = omega arith
at_few most f few (k ∷ ks) zero = few k
at_few most f few (k ∷ ks) (suc i) = at_few most f few ks i

other_few : (most m k : ℕ) (xs : List ℕ) → length xs ≤ most → length (if k == m then [] else xs) ≤ most
other_few most m k xs few = elim (k == m) as (λ b. length (cond b [] xs) ≤ most) [ true ↦ omega arith | false ↦ few ]

pub others_few : (most p m i : ℕ) (f : ℕ → List ℕ) → ((k : ℕ) → length (f k) ≤ most) →
    length (get_or (for_others p m f) i []) ≤ most
others_few most p m i f few = at_few most (λ k. if k == m then [] else f k) (λ k. other_few most m k (f k) (few k))
    (range_with_len 0 p) i

-- the same of a list that is equal, and of vertices with these numbers
module _ {X : Type 0} (number : X → ℕ) (most p m i : ℕ) (f : ℕ → List ℕ) (lists : List (List ℕ)) (list : List X) where
  pub short_lists : lists ≡ for_others p m f → map number list ≡ get_or lists i [] →
      ((k : ℕ) → length (f k) ≤ most) → length list ≤ most
  short_lists same here few =
      let P : List (List ℕ) → Type 0 = λ ls. length (get_or ls i []) ≤ most in
      let h : length (get_or lists i []) ≤ most = subst P (sym same) (others_few most p m i f few) in
      omega (arith, ap length here, length-map list number)

-- the lists of other machines have what was put there
pub other_list : (p m k : ℕ) (f : ℕ → List ℕ) → k < p → (k == m) ≡ false → slice_index_or (for_others p m f) k [] ≡ f k
other_list p m k f lt other =
    get_or-map-range_with_len (λ k. if k == m then [] else f k) 0 p k k [] lt (omega arith)
    ∙ ap (λ b. if b then [] else f k) other
