-- `wrapping_div` gives what is left of the quotient in 64 bits.
use Rattle.std.proofs.Common.{◌≡◌, ℕ, ◌^◌, ◌/◌, ◌<◌, ◌≤◌, zero, suc, refl, sym, ap, ◌∙◌, arith, ℤ, pos, negsuc, neg_ℤ, FitsSigned, w64}
use Rattle.std.specs.Int.{int_wrap, int_wrapping_div, cast_signed, cast_unsigned}
use Rattle.std.specs.Int.RustNames.{int_div, unsigned_abs}
use Rattle.std.proofs.Math.Nat.{mod-eq_of_lt, div-le_self}
use Rattle.std.proofs.lemmas.Int.{to_z-of_z}
use Rattle.vert_eval.specs.Words.{quotient}

cast_is_wrap : (z : ℤ) → unsigned_abs z < 2 ^ 64 → cast_signed w64 (cast_unsigned w64 z) ≡ int_wrap w64 z
unfolding int_wrap
cast_is_wrap (pos n) h = ap (cast_signed w64) (sym (mod-eq_of_lt h))
cast_is_wrap (negsuc n) h = ap (cast_signed w64) (omega arith)

abs_neg : (r : ℕ) → unsigned_abs (neg_ℤ (pos r)) ≤ r
abs_neg zero = omega arith
abs_neg (suc r) = omega arith

abs_div : (x y : ℤ) → unsigned_abs (int_div x y) ≤ unsigned_abs x
abs_div (pos a) (pos b) = div-le_self a b
abs_div (pos a) (negsuc b) = omega (arith, abs_neg (a / suc b), div-le_self a (suc b))
abs_div (negsuc a) (pos b) = omega (arith, abs_neg (suc a / b), div-le_self (suc a) b)
abs_div (negsuc a) (negsuc b) = div-le_self (suc a) (suc b)

abs_fits : (x : ℤ) → FitsSigned w64 x → unsigned_abs x < 2 ^ 64
abs_fits (pos a) f = omega (arith, f.sfits)
abs_fits (negsuc a) f = omega (arith, f.sfits)

pub div_wraps : (x y : ℤ) → FitsSigned w64 x → cast_signed w64 (cast_unsigned w64 (int_div x y))
    ≡ int_wrap w64 (int_div x y)
div_wraps x y f = cast_is_wrap (int_div x y) (omega (arith, abs_div x y, abs_fits x f))

pub quotient_is :
    (x y r : ℤ) →
    FitsSigned w64 x →
    FitsSigned w64 y →
    FitsSigned w64 r →
    (cast_unsigned w64 y ≡ 0 → ⊥) →
    r ≡ int_wrapping_div w64 (cast_signed w64 (cast_unsigned w64 x)) (cast_signed w64 (cast_unsigned w64 y)) →
    cast_signed w64 (cast_unsigned w64 r) ≡ quotient x y
quotient_is x y r fx fy fr set e =
    to_z-of_z w64 r fr
    ∙ (e ∙ ap (λ a. int_wrapping_div w64 a (cast_signed w64 (cast_unsigned w64 y))) (to_z-of_z w64 x fx)
    ∙ ap (int_wrapping_div w64 x) (to_z-of_z w64 y fy))
    ∙ (div_wraps x y fx ∙ sym (chosen y set))
  where
    chosen : (d : ℤ) → (cast_unsigned w64 d ≡ 0 → ⊥) → quotient x d ≡ int_wrap w64 (int_div x d)
    chosen (pos zero) h = absurd (h refl)
    chosen (pos (suc n)) h = refl
    chosen (negsuc n) h = refl
