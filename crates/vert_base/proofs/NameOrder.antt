-- The order of lists of numbers is total.
use Rattle.std.proofs.Common.{◌≡◌, refl, ℕ, Bool, true, false, List, [], ◌∷◌, arith}
use Rattle.std.specs.Prelude.{◌==◌, ◌&&◌, ◌||◌, nat_lt}
use Rattle.vert_base.specs.Names.{is_below, same_numbers}

apart_step : (x y : ℕ) (r s : Bool) → (r ≡ true → s ≡ false) → (nat_lt x y || (x == y && r)) ≡ true →
    (x == y && s) ≡ false
apart_step x y true true f e = grind arith
apart_step x y true false f e = grind arith
apart_step x y false true f e = grind arith
apart_step x y false false f e = grind arith

apart_back_step : (x y : ℕ) (r s : Bool) → (r ≡ true → s ≡ false) → (nat_lt y x || (y == x && r)) ≡ true →
    (x == y && s) ≡ false
apart_back_step x y true true f e = grind arith
apart_back_step x y true false f e = grind arith
apart_back_step x y false true f e = grind arith
apart_back_step x y false false f e = grind arith

total_step : (x y : ℕ) (r s t : Bool) → (r ≡ false → s ≡ false → t ≡ true) → (nat_lt x y || (x == y && r)) ≡ false →
    (x == y && s) ≡ false → (nat_lt y x || (y == x && t)) ≡ true
total_step x y r s true f e g = grind arith
total_step x y true s false f e g = grind arith
total_step x y false true false f e g = grind arith
total_step x y false false false f e g = grind arith

module _ (x y z : ℕ) where
  along_step : (r s t : Bool) → (r ≡ true → s ≡ true → t ≡ true) → (nat_lt x y || (x == y && r)) ≡ true →
      (nat_lt y z || (y == z && s)) ≡ true → (nat_lt x z || (x == z && t)) ≡ true
  along_step r s true f e g = grind arith
  along_step false s false f e g = grind arith
  along_step true false false f e g = grind arith
  along_step true true false f e g = grind arith

pub apart : (xs ys : List ℕ) → is_below xs ys ≡ true → same_numbers xs ys ≡ false
apart [] [] e = grind arith
apart [] (y ∷ ys) e = refl
apart (x ∷ xs) [] e = refl
apart (x ∷ xs) (y ∷ ys) e = apart_step x y (is_below xs ys) (same_numbers xs ys) (apart xs ys) e

pub apart_back : (xs ys : List ℕ) → is_below ys xs ≡ true → same_numbers xs ys ≡ false
apart_back [] [] e = grind arith
apart_back [] (y ∷ ys) e = refl
apart_back (x ∷ xs) [] e = refl
apart_back (x ∷ xs) (y ∷ ys) e = apart_back_step x y (is_below ys xs) (same_numbers xs ys) (apart_back xs ys) e

pub total : (xs ys : List ℕ) → is_below xs ys ≡ false → same_numbers xs ys ≡ false → is_below ys xs ≡ true
total [] [] e f = grind arith
total [] (y ∷ ys) e f = grind arith
total (x ∷ xs) [] e f = refl
total (x ∷ xs) (y ∷ ys) e f = total_step x y (is_below xs ys) (same_numbers xs ys) (is_below ys xs) (total xs ys) e f

pub along : (xs ys zs : List ℕ) → is_below xs ys ≡ true → is_below ys zs ≡ true → is_below xs zs ≡ true
along [] [] zs e f = f
along [] (y ∷ ys) [] e f = grind arith
along [] (y ∷ ys) (z ∷ zs) e f = refl
along (x ∷ xs) [] zs e f = grind arith
along (x ∷ xs) (y ∷ ys) [] e f = grind arith
along (x ∷ xs) (y ∷ ys) (z ∷ zs) e f = along_step x y z (is_below xs ys) (is_below ys zs) (is_below xs zs)
    (along xs ys zs) e f
