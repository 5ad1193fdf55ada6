-- Lists of machines, of which one is replaced.
use Rattle.std.proofs.Common.{◌≡◌, ◌≢◌, ℕ, zero, suc, ◌<◌, List, [], ◌∷◌, length, map, Option, Some, refl, ap, sym, ◌∙◌, subst, arith, ⊎_elim, slice_get}
use Rattle.std.specs.Prelude.{slice_set}
use Rattle.std.proofs.lemmas.Bool.{cases_eq}
use Rattle.std.proofs.lemmas.Option.{slice_get_within}

pub set_here : {X : Type 0} → (xs : List X) (m : ℕ) (y : X) → m < length xs → slice_get (slice_set xs m y) m ≡ Some y
set_here [] m y lt = absurd (omega arith)
set_here (x ∷ xs) zero y lt = refl
set_here (x ∷ xs) (suc m) y lt = set_here xs m y (omega arith)

pub set_other : {X : Type 0} → (xs : List X) (m j : ℕ) (y : X) → j ≢ m → slice_get (slice_set xs m y) j ≡ slice_get xs j
set_other [] m j y ne = refl
set_other (x ∷ xs) zero zero y ne = absurd (ne refl)
set_other (x ∷ xs) zero (suc j) y ne = refl
set_other (x ∷ xs) (suc m) zero y ne = refl
set_other (x ∷ xs) (suc m) (suc j) y ne = set_other xs m j y (λ e. ne (ap suc e))

pub set_length : {X : Type 0} → (xs : List X) (m : ℕ) (y : X) → length (slice_set xs m y) ≡ length xs
set_length [] m y = refl
set_length (x ∷ xs) zero y = refl
set_length (x ∷ xs) (suc m) y = ap suc (set_length xs m y)

pub map_set : {X Y : Type 0} → (f : X → Y) (xs : List X) (m : ℕ) (y : X) →
    map f (slice_set xs m y) ≡ slice_set (map f xs) m (f y)
map_set f [] m y = refl
map_set f (x ∷ xs) zero y = refl
map_set f (x ∷ xs) (suc m) y = ap (λ zs. f x ∷ zs) (map_set f xs m y)

pub map_get : {X Y : Type 0} → (f : X → Y) (xs : List X) (m : ℕ) (x : X) → slice_get xs m ≡ Some x →
    slice_get (map f xs) m ≡ Some (f x)
map_get f [] m x e = cc
map_get f (y ∷ xs) zero x e = let same : y ≡ x = cc in ap (λ z. Some (f z)) same
map_get f (y ∷ xs) (suc m) x e = map_get f xs m x e

pub map_get_back : {X Y : Type 0} → (f : X → Y) (xs : List X) (m : ℕ) (y : Y) → slice_get (map f xs) m ≡ Some y →
    (x : X) × (slice_get xs m ≡ Some x) × (f x ≡ y)
map_get_back f [] m y e = cc
map_get_back f (x ∷ xs) zero y e = (x, refl, (let same : f x ≡ y = cc in same))
map_get_back f (x ∷ xs) (suc m) y e = map_get_back f xs m y e

pub get_one : {X : Type 0} → (o : Option X) (x y : X) → o ≡ Some x → o ≡ Some y → x ≡ y
get_one o x y a b = let same : Some x ≡ Some y = sym a ∙ b in (let e : x ≡ y = cc in e)

-- which machine stands at a place
pub data IsOneOf {X : Type 0} (xs : List X) (m : ℕ) (y : X) (j : ℕ) (x : X) : Type 0 where
  same : j ≡ m → y ≡ x → IsOneOf xs m y j x
  other : j ≢ m → slice_get xs j ≡ Some x → IsOneOf xs m y j x

pub set_cases : {X : Type 0} → (xs : List X) (m : ℕ) (y : X) (j : ℕ) (x : X) → slice_get (slice_set xs m y) j ≡ Some x
    → IsOneOf xs m y j x
set_cases xs m y j x e =
    ⊎_elim
    (λ (at : j ≡ m).
    let within = slice_get_within (slice_set xs m y) j x e in
    let size = set_length xs m y in
    same at (get_one (slice_get (slice_set xs m y) j) y x
    (subst (λ i. slice_get (slice_set xs m y) i ≡ Some y) (sym at) (set_here xs m y (omega arith))) e))
    (λ (ne : j ≢ m). other ne (sym (set_other xs m j y ne) ∙ e))
    (cases_eq j m)
