-- Numbers of few digits.
use Rattle.std.proofs.Common.{◌≡◌, ℕ, ◌+◌, ◌-◌, ◌<◌, ◌≤◌, ◌^◌, true, List, [], ◌∷◌, ◌++◌, length, get_or, take, drop, min, lit<, ap, sym, ◌∙◌, arith}
use Rattle.std.specs.List.{list_all}
use Rattle.std.proofs.Math.Nat.{pow-le-pow_right}
use Rattle.std.proofs.lemmas.Bool.Decides.{nat_tests}
use Rattle.std.proofs.lemmas.Grind.{common_steps}
use Rattle.std.proofs.lemmas.List.{drop_more, take_rest, take-append-drop}
use Rattle.edge_reader.specs.Words.{BeginsWith, is_number, value_of}
use Rattle.vert_base.specs.Digits.{is_digit}

-- so few digits have no larger number
pub short_bound : (value i : ℕ) → value < 10 ^ i → i < 8 → value < 10000000
short_bound value i small few =
    let ten : 0 < 10 = lit< tt in
    let least : i ≤ 7 = omega arith in
    let most : 10 ^ i ≤ 10000000 = pow-le-pow_right ten least in
    omega arith

not_capped : (value n : ℕ) → value ≡ n → value < 10000000 → value ≡ min n 1099511627776
not_capped value n e h = grind (arith, nat_tests)

digits_are_number : (word : List ℕ) → 0 < length word → list_all is_digit word ≡ true → is_number word ≡ true
digits_are_number [] some digits = absurd (omega arith)
digits_are_number (byte ∷ word) some digits = digits

-- a text begins with these digits, and a byte stands behind them
module _ (text : List ℕ) (value i : ℕ) where
  pub begins_short : list_all is_digit (take i text) ≡ true → value ≡ value_of (take i text) → value < 10 ^ i →
      i < 8 → 0 < i → i < length text →
      BeginsWith text value (get_or text i 0 ∷ take (length text - (i + 1)) (drop (i + 1) text))
  begins_short digits is small few some within =
      let word = take i text in
      let long : 0 < length word = grind (arith, common_steps) in
      record {
        word = word;
        parts = sym (take-append-drop i text) ∙ ap (λ q. word ++ q)
            (drop_more text i 0 within ∙ ap (λ q. get_or text i 0 ∷ q) (sym (take_rest text (i + 1))));
        says = digits_are_number word long digits;
        value = not_capped value (value_of word) is (short_bound value i small few);
      }
