-- What exchanges of neighbours keep, any other order of a list keeps.
use Rattle.std.proofs.Common.{ℕ, zero, suc, ◌<◌, List, [], ◌∷◌, length, get_or, set, swap, IsPermutation, sym, subst, arith}
use Rattle.std.proofs.lemmas.List.Edits.{swap_is}
use Rattle.std.proofs.lemmas.List.Sorted.{IsPermutation-keeps}

-- a relation of lists that exchanges of neighbours go through
pub record IsKept {X : Type 0} (P : List X → List X → Type 0) : Type 0 where
  pub same : (xs : List X) → P xs xs
  pub under : (x : X) (xs ys : List X) → P xs ys → P (x ∷ xs) (x ∷ ys)
  pub flip : (x y : X) (xs : List X) → P (x ∷ y ∷ xs) (y ∷ x ∷ xs)
  pub both : (xs ys zs : List X) → P xs ys → P ys zs → P xs zs

-- the first element and a later one
front-swap : {X : Type 0} (P : List X → List X → Type 0) → IsKept P → (x : X) (xs : List X) (j : ℕ) → j < length xs →
    P (x ∷ xs) (get_or xs j x ∷ set xs j x)
front-swap P kept x [] j h = absurd (omega arith)
front-swap P kept x (y ∷ ys) zero h = kept.flip x y ys
front-swap P kept x (y ∷ ys) (suc j) h =
    let z = get_or ys j x in
    kept.both (x ∷ y ∷ ys) (y ∷ x ∷ ys) (z ∷ y ∷ set ys j x) (kept.flip x y ys)
    (kept.both (y ∷ x ∷ ys) (y ∷ z ∷ set ys j x) (z ∷ y ∷ set ys j x)
    (kept.under y (x ∷ ys) (z ∷ set ys j x) (front-swap P kept x ys j (omega arith))) (kept.flip y z (set ys j x)))

swap-kept : {X : Type 0} (P : List X → List X → Type 0) → IsKept P → (xs : List X) (i j : ℕ) → i < length xs →
    j < length xs → P xs (swap xs i j)
swap-kept P kept [] i j hi hj = absurd (omega arith)
swap-kept P kept (x ∷ xs) zero zero hi hj = kept.same (x ∷ xs)
swap-kept P kept (x ∷ xs) zero (suc j) hi hj = front-swap P kept x xs j (omega arith)
swap-kept P kept (x ∷ xs) (suc i) zero hi hj = front-swap P kept x xs i (omega arith)
swap-kept P kept (x ∷ xs) (suc i) (suc j) hi hj =
    subst (λ ys. P (x ∷ xs) (x ∷ ys)) (sym (swap_is xs i j x (omega arith) (omega arith)))
    (kept.under x xs (swap xs i j) (swap-kept P kept xs i j (omega arith) (omega arith)))

pub permutation-kept : {X : Type 0} (P : List X → List X → Type 0) → IsKept P → (xs ys : List X) → IsPermutation xs ys →
    P xs ys
permutation-kept P kept xs ys =
    IsPermutation-keeps xs (P xs) (kept.same xs)
    (λ l i j hi hj h. kept.both xs l (swap l i j) h (swap-kept P kept l i j hi hj)) ys
