-- The ends of chunks, made one after another.
use Rattle.std.proofs.Common.{◌≡◌, ℕ, zero, suc, ◌+◌, ◌-◌, ◌<◌, ◌≤◌, List, [], ◌∷◌, ◌++◌, length, drop, sum, get_or, refl, ap, sym, subst, ◌∙◌, arith}
use Rattle.std.proofs.lemmas.List.{append_assoc}
use Rattle.std.specs.Int.{div_ceil}
use Rattle.std.specs.List.Sorted.{IsNonDecreasing}
use Rattle.chunk_split.specs.Bounds.{reach, ends_from}
use Rattle.chunk_split.specs.Chunks.{AreEnds}

-- one chunk more
pub ends_step : (q start len : ℕ) (costs : List ℕ) → 2 ≤ q → len ≡ reach (div_ceil (sum costs) q) costs →
    ends_from q start costs ≡ (start + len) ∷ ends_from (q - 1) (start + len) (drop len costs)
ends_step zero start len costs h e = absurd (omega arith)
ends_step (suc zero) start len costs h e = absurd (omega arith)
ends_step (suc (suc p)) start len costs h e =
    let less : suc (suc p) - 1 ≡ suc p = omega arith in
    rw (less, e) refl

pub ends_last : (start : ℕ) (costs : List ℕ) (q : ℕ) → q ≡ 1 → ends_from q start costs ≡ (start + length costs) ∷ []
ends_last start costs q e = rw e refl

pub ends_go :
    (p i start len at : ℕ) (ends costs rest full : List ℕ) →
    i + 1 < p →
    len ≡ reach (div_ceil (sum costs) (p - i)) costs →
    at ≡ start + len →
    rest ≡ drop len costs →
    ends ++ ends_from (p - i) start costs ≡ full →
    (ends ++ at ∷ []) ++ ends_from (p - (i + 1)) at rest ≡ full
ends_go p i start len at ends costs rest full h e there left before =
    let two : 2 ≤ p - i = omega arith in
    let less : p - (i + 1) ≡ p - i - 1 = omega arith in
    append_assoc ends (at ∷ []) (ends_from (p - (i + 1)) at rest)
    ∙ (rw (less, there, left) (ap (λ ys. ends ++ ys) (sym (ends_step (p - i) start len costs two e))) ∙ before)

module _ (p i start n : ℕ) (ends costs full : List ℕ) where
  pub ends_finish : i + 1 ≡ p → start + length costs ≡ n → ends ++ ends_from (p - i) start costs ≡ full →
      ends ++ n ∷ [] ≡ full
  ends_finish h e before =
      let one : p - i ≡ 1 = omega arith in
      ap (λ q. ends ++ q ∷ []) (sym e) ∙ (ap (λ ys. ends ++ ys) (sym (ends_last start costs (p - i) one)) ∙ before)

pub ends_length : (q start : ℕ) (costs : List ℕ) → length (ends_from q start costs) ≡ q
ends_length zero start costs = refl
ends_length (suc zero) start costs = refl
ends_length (suc (suc p)) start costs =
    let len = reach (div_ceil (sum costs) (suc (suc p))) costs in
    ap suc (ends_length (suc p) (start + len) (drop len costs))

-- numbers that do not fall, from `start` on
abbrev pub RisesFrom : ℕ → List ℕ → Type 0
RisesFrom start [] = Unit {0}
RisesFrom start (x ∷ xs) = (start ≤ x) × RisesFrom x xs

pub ends_rise : (q start : ℕ) (costs : List ℕ) → RisesFrom start (ends_from q start costs)
ends_rise zero start costs = tt
ends_rise (suc zero) start costs = (omega arith, tt)
ends_rise (suc (suc p)) start costs =
    let len = reach (div_ceil (sum costs) (suc (suc p))) costs in
    (omega arith, ends_rise (suc p) (start + len) (drop len costs))

above_start : (start : ℕ) (xs : List ℕ) → RisesFrom start xs → (j d : ℕ) → j < length xs → start ≤ get_or xs j d
above_start start [] h j d lt = absurd (omega arith)
above_start start (x ∷ xs) h zero d lt = h.0
above_start start (x ∷ xs) h (suc j) d lt =
    let inner : j < length xs = omega arith in
    let first = h.0 in
    omega (arith, above_start x xs h.1 j d inner)

pub non_decreasing : (start : ℕ) (xs : List ℕ) → RisesFrom start xs → IsNonDecreasing xs
non_decreasing start [] h i j d le lt = absurd (omega arith)
non_decreasing start (x ∷ xs) h zero zero d le lt = omega arith
non_decreasing start (x ∷ xs) h zero (suc j) d le lt = let inner : j < length xs = omega arith in
    above_start x xs h.1 j d inner
non_decreasing start (x ∷ xs) h (suc i) zero d le lt = absurd (omega arith)
non_decreasing start (x ∷ xs) h (suc i) (suc j) d le lt =
    let inner : j < length xs = omega arith in
    let le' : i ≤ j = omega arith in
    non_decreasing x xs h.1 i j d le' inner

-- they are ends of chunks
pub are_ends : (most p : ℕ) (costs ends : List ℕ) → 1 ≤ p → p ≤ most → ends ≡ ends_from p 0 costs → AreEnds most ends
are_ends most p costs ends some few e =
    let size : length ends ≡ p = ap length e ∙ ends_length p 0 costs in
    let rise : IsNonDecreasing (ends_from p 0 costs) = non_decreasing 0 (ends_from p 0 costs) (ends_rise p 0 costs) in
    (omega arith, omega arith, subst (λ (xs : List ℕ). IsNonDecreasing xs) (sym e) rise)
