-- The places of names lie in the order of names.
use Rattle.std.proofs.Common.{◌≡◌, refl, ◌+◌, ◌*◌, ◌<◌, ◌≤◌, ◌⊎◌, ◌∙◌, ℕ, Bool, true, false, ap, sym, subst, inl, inr, arith}
use Rattle.std.specs.Prelude.{◌==◌, ◌&&◌, ◌||◌, nat_lt}
use Rattle.std.proofs.Math.Nat.{mul-le-mul_left}
use Rattle.std.proofs.lemmas.Bool.{cases_lt}
use Rattle.vert_base.specs.declared.message.Name.{Name}
use Rattle.vert_base.specs.declared.message.NameKind.{NameKind}
use Rattle.vert_base.specs.declared.message.NameKind.TheVariants.{Refresh, Dep, Update, Push, Tally, Verdict}
use Rattle.vert_base.specs.Names.{kind_place, last_numbers, is_before, is_below, same_name, same_numbers}
use Rattle.vert_base.proofs.LetterLaws.{same_kind}
use Rattle.circulant_plan.specs.Ring.{order_of, before_machine}
use Rattle.double_buffer.specs.Taking.{CanTake, CanTakeKind, IsOfRound, IsOfStep}
use Rattle.double_buffer.specs.Places.{place_of, place_in_row}

-- rows of q places one after another
earlier : (q j k a b : ℕ) → a < q → b < q → q * j + a < q * k + b → (j < k) ⊎ ((j ≡ k) × (a < b))
earlier q j k a b within_a within_b lt =
    elim (cases_lt j k) [
      | inl below ↦ inl below
      | inr most ↦ elim (cases_lt k j) [
        | inl above ↦ absurd (omega (arith, mul-le-mul_left q (next above)))
        | inr least ↦ (let same : j ≡ k = omega arith in inr (same, omega (arith, ap (λ n. q * n) same)))
      ]
    ]
  where
    next : k < j → k + 1 ≤ j
    next above = omega arith

in_one_row : (q j k a b : ℕ) → a < q → b < q → q * j + a ≡ q * k + b → (j ≡ k) × (a ≡ b)
in_one_row q j k a b within_a within_b e =
    elim (cases_lt j k) [
      | inl below ↦ absurd (omega (arith, mul-le-mul_left q (next j k below)))
      | inr most ↦ elim (cases_lt k j) [
        | inl above ↦ absurd (omega (arith, mul-le-mul_left q (next k j above)))
        | inr least ↦ (let same : j ≡ k = omega arith in (same, omega (arith, ap (λ n. q * n) same)))
      ]
    ]
  where
    next : (m n : ℕ) → m < n → m + 1 ≤ n
    next m n above = omega arith

of_round : (p : ℕ) (x : Name) → IsOfRound p x → x.from < 2 * p
of_round p x can = omega (arith, can.from)

of_step : (p sender : ℕ) (x : Name) → IsOfStep p sender x → 2 * x.step + x.half < 2 * p
of_step p sender x can = omega (arith, can.step, can.half)

in_row : (kind : NameKind) (p : ℕ) (x : Name) → CanTakeKind kind p x → place_in_row kind x < 2 * p
in_row Refresh p x can = of_round p x can
in_row Dep p x can = of_step p (before_machine x.to p) x can
in_row Update p x can = of_step p (order_of x.to x.step p) x can
in_row Push p x can = of_round p x can
in_row Tally p x can = of_round p x can.0
in_row Verdict p x can = of_round p x can.0

six_kinds : (kind : NameKind) → kind_place kind ≤ 5
six_kinds Refresh = omega arith
six_kinds Dep = omega arith
six_kinds Update = omega arith
six_kinds Push = omega arith
six_kinds Tally = omega arith
six_kinds Verdict = omega arith

pub has_place : (p : ℕ) (x : Name) → CanTake p x → place_of p x < 12 * p
has_place p x can = omega (arith, mul-le-mul_left (2 * p) (six_kinds x.kind), in_row x.kind p x can)

-- the first number that differs decides
less_here : (x y : ℕ) (rest : Bool) → x < y → (nat_lt x y || (x == y && rest)) ≡ true
less_here x y true lt = grind arith
less_here x y false lt = grind arith

less_later : (x y : ℕ) (rest : Bool) → x ≡ y → rest ≡ true → (nat_lt x y || (x == y && rest)) ≡ true
less_later x y true e less = grind arith
less_later x y false e less = absurd (grind arith)

same_here : (x y : ℕ) (rest : Bool) → x ≡ y → rest ≡ true → (x == y && rest) ≡ true
same_here x y true e same = grind arith
same_here x y false e same = absurd (grind arith)

round_before : (p : ℕ) (a b : Name) → IsOfRound p a → IsOfRound p b → a.from < b.from →
    is_below (last_numbers a) (last_numbers b) ≡ true
round_before p a b can_a can_b lt =
    less_later a.step b.step _ (can_a.step ∙ sym can_b.step)
    (less_later a.half b.half _ (can_a.half ∙ sym can_b.half) (less_here a.from b.from _ lt))

step_before : (p s t : ℕ) (a b : Name) → IsOfStep p s a → IsOfStep p t b → 2 * a.step + a.half < 2 * b.step + b.half →
    is_below (last_numbers a) (last_numbers b) ≡ true
step_before p s t a b can_a can_b lt =
    elim (cases_lt a.step b.step) [
      | inl below ↦ less_here a.step b.step _ below
      | inr most ↦ less_later a.step b.step _ (omega (arith, can_a.half, can_b.half))
          (less_here a.half b.half _ (omega (arith, can_a.half, can_b.half)))
    ]

last_before : (kind : NameKind) (p : ℕ) (a b : Name) → CanTakeKind kind p a → CanTakeKind kind p b →
    place_in_row kind a < place_in_row kind b → is_below (last_numbers a) (last_numbers b) ≡ true
last_before Refresh p a b can_a can_b lt = round_before p a b can_a can_b lt
last_before Dep p a b can_a can_b lt = step_before p _ _ a b can_a can_b lt
last_before Update p a b can_a can_b lt = step_before p _ _ a b can_a can_b lt
last_before Push p a b can_a can_b lt = round_before p a b can_a can_b lt
last_before Tally p a b can_a can_b lt = round_before p a b can_a.0 can_b.0 lt
last_before Verdict p a b can_a can_b lt = round_before p a b can_a.0 can_b.0 lt

-- of the names of one round and receiver the one in the earlier place is before the other
pub place_before : (p : ℕ) (a b : Name) → a.round ≡ b.round → CanTake p a → CanTake p b → place_of p a < place_of p b
    → is_before a b ≡ true
place_before p a b rounds can_a can_b lt =
    elim (earlier (2 * p) (kind_place a.kind) (kind_place b.kind) _ _ (in_row a.kind p a can_a)
    (in_row b.kind p b can_b) lt) [
      | inl below ↦ less_here (kind_place a.kind) (kind_place b.kind) _ below
      | inr both ↦
          (let kinds : b.kind ≡ a.kind = sym (same_kind a.kind b.kind both.0) in
          less_later (kind_place a.kind) (kind_place b.kind) _ both.0 (less_later a.round b.round _ rounds
          (last_before a.kind p a b can_a (subst (λ (k : NameKind). CanTakeKind k p b) kinds can_b)
          (subst (λ (k : NameKind). place_in_row a.kind a < place_in_row k b) kinds both.1))))
    ]

round_same : (p : ℕ) (a b : Name) → a.to ≡ b.to → IsOfRound p a → IsOfRound p b → a.from ≡ b.from →
    same_numbers (last_numbers a) (last_numbers b) ≡ true
round_same p a b tos can_a can_b froms =
    same_here a.step b.step _ (can_a.step ∙ sym can_b.step)
    (same_here a.half b.half _ (can_a.half ∙ sym can_b.half)
    (same_here a.from b.from _ froms (same_here a.to b.to true tos refl)))

module _ (p s t : ℕ) (a b : Name) where
  step_same : a.to ≡ b.to → IsOfStep p s a → IsOfStep p t b → (a.step ≡ b.step → s ≡ t) →
      2 * a.step + a.half ≡ 2 * b.step + b.half → same_numbers (last_numbers a) (last_numbers b) ≡ true
  step_same tos can_a can_b senders places =
      let steps : a.step ≡ b.step = omega (arith, can_a.half, can_b.half) in
      same_here a.step b.step _ steps (same_here a.half b.half _ (omega arith)
      (same_here a.from b.from _ (can_a.from ∙ senders steps ∙ sym can_b.from) (same_here a.to b.to true tos refl)))

last_same : (kind : NameKind) (p : ℕ) (a b : Name) → a.to ≡ b.to → CanTakeKind kind p a → CanTakeKind kind p b →
    place_in_row kind a ≡ place_in_row kind b → same_numbers (last_numbers a) (last_numbers b) ≡ true
last_same Refresh p a b tos can_a can_b e = round_same p a b tos can_a can_b e
last_same Dep p a b tos can_a can_b e =
    step_same p (before_machine a.to p) (before_machine b.to p) a b tos can_a can_b (λ steps.
    ap (λ n. before_machine n p) tos) e
last_same Update p a b tos can_a can_b e =
    step_same p (order_of a.to a.step p) (order_of b.to b.step p) a b tos can_a can_b (λ steps.
    ap (λ n. order_of n a.step p) tos ∙ ap (λ n. order_of b.to n p) steps) e
last_same Push p a b tos can_a can_b e = round_same p a b tos can_a can_b e
last_same Tally p a b tos can_a can_b e = round_same p a b tos can_a.0 can_b.0 e
last_same Verdict p a b tos can_a can_b e = round_same p a b tos can_a.0 can_b.0 e

-- two names of one round and receiver have places of their own
pub place_same : (p : ℕ) (a b : Name) → a.round ≡ b.round → a.to ≡ b.to → CanTake p a → CanTake p b →
    place_of p a ≡ place_of p b → same_name a b ≡ true
place_same p a b rounds tos can_a can_b e =
    let both = in_one_row (2 * p) (kind_place a.kind) (kind_place b.kind) (place_in_row a.kind a)
    (place_in_row b.kind b) (in_row a.kind p a can_a) (in_row b.kind p b can_b) e in
    let kinds : b.kind ≡ a.kind = sym (same_kind a.kind b.kind both.0) in
    same_here (kind_place a.kind) (kind_place b.kind) _ both.0 (same_here a.round b.round _ rounds
    (last_same a.kind p a b tos can_a (subst (λ (k : NameKind). CanTakeKind k p b) kinds can_b)
    (subst (λ (k : NameKind). place_in_row a.kind a ≡ place_in_row k b) kinds both.1)))
