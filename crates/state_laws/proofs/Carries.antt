-- The words that a loop hands on.
use Rattle.std.proofs.Common.{◌≡◌, ℕ, ◌≤◌, Bool, true, false, List, length, Some, None, refl, arith}
use Rattle.std.specs.Prelude.{if◌then◌else◌, nat_lt}
use Rattle.std.proofs.lemmas.Bool.Decides.{nat_tests}
use Rattle.std.proofs.lemmas.List.Sums.{count_by-le-length, length-filter}
use Rattle.carry_analysis.specs.declared.classes.Class.{Class}
use Rattle.carry_analysis.specs.Classes.{carried_in, carry_in, is_carried}
use Rattle.symple_face.specs.Shapes.{words_in}

-- what is handed on has a word for each carried let
pub carry_count : (breaks : Bool) (cs : List Class) → words_in (carry_in breaks cs) ≡ carried_in cs
carry_count true cs = refl
carry_count false cs = by (nat_lt 0 (carried_in cs)) refl
  where
    by : (b : Bool) → nat_lt 0 (carried_in cs) ≡ b →
        words_in (if b then Some (record { words = carried_in cs }) else None) ≡ carried_in cs
    by true e = refl
    by false e = grind (arith, nat_tests)

pub few_carry : (breaks : Bool) (cs : List Class) (n : ℕ) → length cs ≤ n → words_in (carry_in breaks cs) ≤ n
few_carry breaks cs n few =
    let told = length-filter is_carried cs in
    let most = count_by-le-length is_carried cs in
    omega (arith, few, told, most, carry_count breaks cs)
