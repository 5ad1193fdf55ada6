-- Values at places, and the bits of the places.
use Rattle.std.proofs.Common.{◌≡◌, ℕ, zero, suc, ◌+◌, ◌*◌, ◌/◌, ◌%◌, ◌^◌, ◌<◌, eqb, Bool, true, false, not, cond, Option, Some, None, List, [], ◌∷◌, length, refl, sym, ap, ◌∙◌, arith}
use Rattle.std.specs.Int.RustNames.{count_ones}
use Rattle.std.specs.Simd.Lanes.{mask_l}
use Rattle.std.proofs.lemmas.Simd.{ones-mask_l_cons}
use Rattle.body_shape.specs.Places.{there, places, set_count, placed, flags_of}

-- values are back at their places
pub placed-there : {X : Type 0} (xs : List (Option X)) → placed (places xs) (there xs) ≡ xs
placed-there [] = refl
placed-there (None ∷ xs) = ap (λ others. None ∷ others) (placed-there xs)
placed-there (Some x ∷ xs) = ap (λ others. Some x ∷ others) (placed-there xs)

pub length-there : {X : Type 0} (xs : List (Option X)) → length (there xs) ≡ set_count (places xs)
length-there [] = refl
length-there (None ∷ xs) = length-there xs
length-there (Some x ∷ xs) = ap suc (length-there xs)

-- as many values as places are all there
pub there-placed : {X : Type 0} (flags : List Bool) (xs : List X) → length xs ≡ set_count flags →
    there (placed flags xs) ≡ xs
there-placed [] [] e = refl
there-placed [] (x ∷ xs) e = absurd (omega arith)
there-placed (false ∷ flags) xs e = there-placed flags xs e
there-placed (true ∷ flags) [] e = absurd (omega arith)
there-placed (true ∷ flags) (x ∷ xs) e = ap (λ others. x ∷ others) (there-placed flags xs (omega arith))

pub places-placed : {X : Type 0} (flags : List Bool) (xs : List X) → length xs ≡ set_count flags →
    places (placed flags xs) ≡ flags
places-placed [] xs e = refl
places-placed (false ∷ flags) xs e = ap (λ others. false ∷ others) (places-placed flags xs e)
places-placed (true ∷ flags) [] e = absurd (omega arith)
places-placed (true ∷ flags) (x ∷ xs) e = ap (λ others. true ∷ others) (places-placed flags xs (omega arith))

pub length-placed : {X : Type 0} (flags : List Bool) (xs : List X) → length (placed flags xs) ≡ length flags
length-placed [] xs = refl
length-placed (false ∷ flags) xs = ap suc (length-placed flags xs)
length-placed (true ∷ flags) [] = ap suc (length-placed flags [])
length-placed (true ∷ flags) (x ∷ xs) = ap suc (length-placed flags xs)

pub length-flags_of : (k n : ℕ) → length (flags_of k n) ≡ k
length-flags_of zero n = refl
length-flags_of (suc k) n = ap suc (length-flags_of k (n / 2))

pub low_bit : (b : Bool) (m : ℕ) → not (eqb ((cond b 1 0 + 2 * m) % 2) 0) ≡ b
low_bit false m =
    let e : (0 + 2 * m) % 2 ≡ 0 = omega arith in
    ap (λ n. not (eqb n 0)) e
low_bit true m =
    let e : (1 + 2 * m) % 2 ≡ 1 = omega arith in
    ap (λ n. not (eqb n 0)) e

pub high_bits : (b : Bool) (m : ℕ) → (cond b 1 0 + 2 * m) / 2 ≡ m
high_bits false m = omega arith
high_bits true m = omega arith

-- the bits of the number of bits
pub flags_of-mask_l : (flags : List Bool) → flags_of (length flags) (mask_l flags) ≡ flags
flags_of-mask_l [] = refl
flags_of-mask_l (flag ∷ flags) =
    ap (λ b. b ∷ flags_of (length flags) ((cond flag 1 0 + 2 * mask_l flags) / 2)) (low_bit flag (mask_l flags))
    ∙ ap (λ n. flag ∷ flags_of (length flags) n) (high_bits flag (mask_l flags))
    ∙ ap (λ bs. flag ∷ bs) (flags_of-mask_l flags)

half_below : (k n : ℕ) → n < 2 ^ suc k → n / 2 < 2 ^ k
half_below k n below = omega arith

joined : (n : ℕ) → cond (not (eqb (n % 2) 0)) 1 0 + 2 * (n / 2) ≡ n
joined n = bit (n % 2) refl
  where
    bit : (b : ℕ) → n % 2 ≡ b → cond (not (eqb (n % 2) 0)) 1 0 + 2 * (n / 2) ≡ n
    bit zero e = ap (λ r. cond (not (eqb r 0)) 1 0 + 2 * (n / 2)) e ∙ omega arith
    bit (suc zero) e = ap (λ r. cond (not (eqb r 0)) 1 0 + 2 * (n / 2)) e ∙ omega arith
    bit (suc (suc b)) e = absurd (omega arith)

-- the number of the bits of a number
pub mask_l-flags_of : (k n : ℕ) → n < 2 ^ k → mask_l (flags_of k n) ≡ n
mask_l-flags_of zero n below = omega arith
mask_l-flags_of (suc k) n below =
    ap (λ m. cond (not (eqb (n % 2) 0)) 1 0 + 2 * m) (mask_l-flags_of k (n / 2) (half_below k n below)) ∙ joined n

pub ones-set_count : (flags : List Bool) → count_ones (mask_l flags) ≡ set_count flags
unfolding count_ones
ones-set_count [] = refl
ones-set_count (false ∷ flags) = ones-mask_l_cons false flags ∙ omega (arith, ones-set_count flags)
ones-set_count (true ∷ flags) = ones-mask_l_cons true flags ∙ omega (arith, ones-set_count flags)

pub ones-flags_of : (k n : ℕ) → n < 2 ^ k → count_ones n ≡ set_count (flags_of k n)
ones-flags_of k n below = ap count_ones (sym (mask_l-flags_of k n below)) ∙ ones-set_count (flags_of k n)
