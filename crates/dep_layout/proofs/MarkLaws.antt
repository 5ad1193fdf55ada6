-- The marks of states, as bytes and as two-bit numbers.
use Rattle.std.proofs.Common.{◌≡◌, ℕ, zero, suc, ◌+◌, ◌*◌, ◌/◌, ◌%◌, ◌<◌, false, eqb, List, [], ◌∷◌, ◌++◌, length, map, take, drop, refl, ap, ◌∙◌, arith}
use Rattle.std.specs.List.{All, list_any}
use Rattle.std.proofs.lemmas.Bool.{or_parts, eqb-false, eqb-true, not-false}
use Rattle.std.proofs.lemmas.List.Elements.{All-head, All-tail}
use Rattle.dep_layout.specs.declared.state.Mark.{Mark}
use Rattle.dep_layout.specs.declared.state.Mark.TheVariants.{Fresh, Running, Broken}
use Rattle.dep_layout.specs.Spelling.{bits_of, mark_bytes}
use Rattle.dep_layout.specs.Judgement.{mark_len, pairs_of, pairs_in, is_both, is_set}
use Rattle.dep_layout.specs.Reading.{mark_with}

pub bits_below : (mark : Mark) → bits_of mark < 3
bits_below Fresh = omega arith
bits_below Running = omega arith
bits_below Broken = omega arith

pub mark_with-bits : (mark : Mark) → mark_with (bits_of mark) ≡ mark
mark_with-bits Fresh = refl
mark_with-bits Running = refl
mark_with-bits Broken = refl

-- two bits that aren't 3 are those of a mark
pub bits-mark_with : (pair : ℕ) → pair < 4 → is_both pair ≡ false → bits_of (mark_with pair) ≡ pair
bits-mark_with zero h e = refl
bits-mark_with (suc zero) h e = refl
bits-mark_with (suc (suc zero)) h e = refl
bits-mark_with (suc (suc (suc n))) h e = absurd (eqb-false (suc (suc (suc n))) 3 e (omega arith))

pub length-pairs : (bytes : List ℕ) → length (pairs_in bytes) ≡ 4 * length bytes
length-pairs [] = refl
length-pairs (b ∷ bs) = let rest = length-pairs bs in omega (arith, rest)

-- a byte with four pairs, or fewer
four_pairs : (a b c d : ℕ) → a < 4 → b < 4 → c < 4 → d < 4 → pairs_of (a + 4 * b + 16 * c + 64 * d) ≡ a ∷ b ∷ c ∷ d ∷ []
four_pairs a b c d ha hb hc hd =
    let e0 : (a + 4 * b + 16 * c + 64 * d) % 4 ≡ a = omega arith in
    let e1 : (a + 4 * b + 16 * c + 64 * d) / 4 % 4 ≡ b = omega arith in
    let e2 : (a + 4 * b + 16 * c + 64 * d) / 16 % 4 ≡ c = omega arith in
    let e3 : (a + 4 * b + 16 * c + 64 * d) / 64 % 4 ≡ d = omega arith in
    cc

three_pairs : (a b c : ℕ) → a < 4 → b < 4 → c < 4 → pairs_of (a + 4 * b + 16 * c) ≡ a ∷ b ∷ c ∷ 0 ∷ []
three_pairs a b c ha hb hc =
    let e : a + 4 * b + 16 * c ≡ a + 4 * b + 16 * c + 64 * 0 = omega arith in
    ap pairs_of e ∙ four_pairs a b c 0 ha hb hc (omega arith)

two_pairs : (a b : ℕ) → a < 4 → b < 4 → pairs_of (a + 4 * b) ≡ a ∷ b ∷ 0 ∷ 0 ∷ []
two_pairs a b ha hb =
    let e : a + 4 * b ≡ a + 4 * b + 16 * 0 = omega arith in
    ap pairs_of e ∙ three_pairs a b 0 ha hb (omega arith)

one_pair : (a : ℕ) → a < 4 → pairs_of a ≡ a ∷ 0 ∷ 0 ∷ 0 ∷ []
one_pair a ha =
    let e : a ≡ a + 4 * 0 = omega arith in
    ap pairs_of e ∙ two_pairs a 0 ha (omega arith)

below_four : (mark : Mark) → bits_of mark < 4
below_four mark = omega (arith, bits_below mark)

-- the pairs of the bytes of marks are those of the marks, and then zeros
pub record IsPairsOf (marks : List Mark) : Type 0 where
  pub front : take (length marks) (pairs_in (mark_bytes marks)) ≡ map bits_of marks
  pub behind : list_any is_set (drop (length marks) (pairs_in (mark_bytes marks))) ≡ false
  pub count : length (mark_bytes marks) ≡ mark_len (length marks)

pub pairs-mark_bytes : (marks : List Mark) → IsPairsOf marks
pairs-mark_bytes [] = record { front = refl; behind = refl; count = refl }
pairs-mark_bytes (a ∷ []) =
    let e = one_pair (bits_of a) (below_four a) in
    record {
      front = ap (λ ps. take 1 (ps ++ [])) e;
      behind = ap (λ ps. list_any is_set (drop 1 (ps ++ []))) e;
      count = refl;
    }
pairs-mark_bytes (a ∷ b ∷ []) =
    let e = two_pairs (bits_of a) (bits_of b) (below_four a) (below_four b) in
    record {
      front = ap (λ ps. take 2 (ps ++ [])) e;
      behind = ap (λ ps. list_any is_set (drop 2 (ps ++ []))) e;
      count = refl;
    }
pairs-mark_bytes (a ∷ b ∷ c ∷ []) =
    let e = three_pairs (bits_of a) (bits_of b) (bits_of c) (below_four a) (below_four b) (below_four c) in
    record {
      front = ap (λ ps. take 3 (ps ++ [])) e;
      behind = ap (λ ps. list_any is_set (drop 3 (ps ++ []))) e;
      count = refl;
    }
pairs-mark_bytes (a ∷ b ∷ c ∷ d ∷ marks) =
    let e = four_pairs (bits_of a) (bits_of b) (bits_of c) (bits_of d) (below_four a) (below_four b) (below_four c)
    (below_four d) in
    let rest = pairs-mark_bytes marks in
    let n = length marks in
    record {
      front = ap (λ ps. take (suc (suc (suc (suc n)))) (ps ++ pairs_in (mark_bytes marks))) e
          ∙ ap (λ ps. bits_of a ∷ bits_of b ∷ bits_of c ∷ bits_of d ∷ ps) rest.front;
      behind = ap (λ ps. list_any is_set (drop (suc (suc (suc (suc n)))) (ps ++ pairs_in (mark_bytes marks)))) e
          ∙ rest.behind;
      count = more_marks _ n rest.count;
    }
  where
    more_marks : (bytes n : ℕ) → bytes ≡ mark_len n → suc bytes ≡ mark_len (suc (suc (suc (suc n))))
    more_marks bytes n e = omega arith

not_set : (pair : ℕ) → is_set pair ≡ false → pair ≡ 0
not_set pair e = eqb-true pair 0 (not-false (eqb pair 0) e)

-- a byte whose pairs are those of marks, and 0 behind them
last_one : (b : ℕ) → b < 256 → is_both (b % 4) ≡ false → is_set (b / 4 % 4) ≡ false → is_set (b / 16 % 4) ≡ false →
    is_set (b / 64 % 4) ≡ false →
    bits_of (mark_with (b % 4)) ≡ b
last_one b f o z1 z2 z3 = omega (
  arith,
  bits-mark_with (b % 4) (omega arith) o,
  not_set _ z1,
  not_set _ z2,
  not_set _ z3,
)

last_two : (b : ℕ) → b < 256 → is_both (b % 4) ≡ false → is_both (b / 4 % 4) ≡ false → is_set (b / 16 % 4) ≡ false →
    is_set (b / 64 % 4) ≡ false →
    bits_of (mark_with (b % 4)) + 4 * bits_of (mark_with (b / 4 % 4)) ≡ b
last_two b f o p z2 z3 = omega (
  arith,
  bits-mark_with (b % 4) (omega arith) o,
  bits-mark_with (b / 4 % 4) (omega arith) p,
  not_set _ z2,
  not_set _ z3,
)

last_three : (b : ℕ) → b < 256 → is_both (b % 4) ≡ false → is_both (b / 4 % 4) ≡ false → is_both (b / 16 % 4) ≡ false
    → is_set (b / 64 % 4) ≡ false →
    bits_of (mark_with (b % 4)) + 4 * bits_of (mark_with (b / 4 % 4)) + 16 * bits_of (mark_with (b / 16 % 4)) ≡ b
last_three b f o p q z3 = omega (
  arith,
  bits-mark_with (b % 4) (omega arith) o,
  bits-mark_with (b / 4 % 4) (omega arith) p,
  bits-mark_with (b / 16 % 4) (omega arith) q,
  not_set _ z3,
)

whole_byte : (b : ℕ) → b < 256 → is_both (b % 4) ≡ false → is_both (b / 4 % 4) ≡ false → is_both (b / 16 % 4) ≡ false
    → is_both (b / 64 % 4) ≡ false →
    bits_of (mark_with (b % 4)) + 4 * bits_of (mark_with (b / 4 % 4)) + 16 * bits_of (mark_with (b / 16 % 4)) + 64
    * bits_of (mark_with (b / 64 % 4)) ≡ b
whole_byte b f o p q r = omega (
  arith,
  bits-mark_with (b % 4) (omega arith) o,
  bits-mark_with (b / 4 % 4) (omega arith) p,
  bits-mark_with (b / 16 % 4) (omega arith) q,
  bits-mark_with (b / 64 % 4) (omega arith) r,
)

-- bytes whose pairs are those of marks are the bytes of these marks
pub mark_bytes-pairs : (n : ℕ) (bytes : List ℕ) → All (λ b. b < 256) bytes → length bytes ≡ mark_len n →
    list_any is_both (take n (pairs_in bytes)) ≡ false → list_any is_set (drop n (pairs_in bytes)) ≡ false →
    mark_bytes (map mark_with (take n (pairs_in bytes))) ≡ bytes
mark_bytes-pairs zero [] fits count both behind = refl
mark_bytes-pairs (suc n) [] fits count both behind = refl
mark_bytes-pairs zero (b ∷ bs) fits count both behind = absurd (omega arith)
mark_bytes-pairs (suc zero) (b ∷ []) fits count both behind =
    let o = or_parts (is_both (b % 4)) _ both in
    let x = or_parts (is_set (b / 4 % 4)) _ behind in
    let y = or_parts (is_set (b / 16 % 4)) _ x.1 in
    let z = or_parts (is_set (b / 64 % 4)) _ y.1 in
    ap (λ byte. byte ∷ []) (last_one b (All-head (λ x. x < 256) b [] fits) o.0 x.0 y.0 z.0)
mark_bytes-pairs (suc zero) (b ∷ c ∷ bs) fits count both behind = absurd (omega arith)
mark_bytes-pairs (suc (suc zero)) (b ∷ []) fits count both behind =
    let o = or_parts (is_both (b % 4)) _ both in
    let x = or_parts (is_both (b / 4 % 4)) _ o.1 in
    let y = or_parts (is_set (b / 16 % 4)) _ behind in
    let z = or_parts (is_set (b / 64 % 4)) _ y.1 in
    ap (λ byte. byte ∷ []) (last_two b (All-head (λ x. x < 256) b [] fits) o.0 x.0 y.0 z.0)
mark_bytes-pairs (suc (suc zero)) (b ∷ c ∷ bs) fits count both behind = absurd (omega arith)
mark_bytes-pairs (suc (suc (suc zero))) (b ∷ []) fits count both behind =
    let o = or_parts (is_both (b % 4)) _ both in
    let x = or_parts (is_both (b / 4 % 4)) _ o.1 in
    let y = or_parts (is_both (b / 16 % 4)) _ x.1 in
    let z = or_parts (is_set (b / 64 % 4)) _ behind in
    ap (λ byte. byte ∷ []) (last_three b (All-head (λ x. x < 256) b [] fits) o.0 x.0 y.0 z.0)
mark_bytes-pairs (suc (suc (suc zero))) (b ∷ c ∷ bs) fits count both behind = absurd (omega arith)
mark_bytes-pairs (suc (suc (suc (suc n)))) (b ∷ bs) fits count both behind =
    let o = or_parts (is_both (b % 4)) _ both in
    let x = or_parts (is_both (b / 4 % 4)) _ o.1 in
    let y = or_parts (is_both (b / 16 % 4)) _ x.1 in
    let z = or_parts (is_both (b / 64 % 4)) _ y.1 in
    let first = whole_byte b (All-head (λ x. x < 256) b bs fits) o.0 x.0 y.0 z.0 in
    let rest = mark_bytes-pairs n bs (All-tail (λ x. x < 256) b bs fits) (omega arith) z.1 behind in
    ap (λ byte. byte ∷ mark_bytes (map mark_with (take n (pairs_in bs)))) first ∙ ap (λ bytes. b ∷ bytes) rest
