-- One name is settled, and the others stay as they are.
use Rattle.std.proofs.Common.{◌≡◌, ◌⊎◌, ℕ, ◌+◌, ◌-◌, ◌<◌, ◌≤◌, Bool, true, false, ◌&&◌, List, refl, ap, sym, ◌∙◌, subst, inl, inr, arith}
use Rattle.std.proofs.lemmas.Bool.{false≢true}
use Rattle.std.specs.Prelude.{if◌then◌else◌, min, nat_le, nat_lt}
use Rattle.vert_base.specs.declared.message.Name.{Name}
use Rattle.vert_base.specs.Names.{numbers_of, same_name}
use Rattle.vert_base.proofs.LetterLaws.{names_law, same_self}
use Rattle.link_core.specs.declared.pile.Pile.{Pile}
use Rattle.link_core.specs.declared.wire.Wire.{Wire}
use Rattle.link_core.specs.Piles.{Ascend, count_of, fewer, more}
use Rattle.link_core.specs.Traffic.{Traffic, can_repeat}
use Rattle.link_core.specs.Wires.{IsRight, traffic_of}
use Rattle.link_core.proofs.PileLaws.{count_fewer, count_more}

-- ---- counts of other names stay
pub other_more : (x y : Name) (ps : List Pile) → Ascend ps → same_name x y ≡ false →
    count_of y (more x ps) ≡ count_of y ps
other_more x y ps up other =
    count_more x y ps up ∙ ap (λ (b : Bool). if b then min (count_of x ps + 1) 255 else count_of y ps) other

pub other_fewer : (x y : Name) (ps : List Pile) → Ascend ps → same_name x y ≡ false →
    count_of y (fewer x ps) ≡ count_of y ps
other_fewer x y ps up other =
    count_fewer x y ps up ∙ ap (λ (b : Bool). if b then count_of x ps - 1 else count_of y ps) other

-- so whether they can be sent again stays
abbrev pub right : Traffic → Name → ℕ
right t x = if can_repeat t x then 1 else 0

pub right_along : (t u : Traffic) (x : Name) → count_of x u.kept ≡ count_of x t.kept →
    count_of x u.copies ≡ count_of x t.copies → right t x ≡ right u x
right_along t u x kept copies =
    ap (λ (n : ℕ). if nat_le 1 n && nat_lt (count_of x t.copies) 255 then 1 else 0) (sym kept)
    ∙ ap (λ (n : ℕ). if nat_le 1 (count_of x u.kept) && nat_lt n 255 then 1 else 0) (sym copies)

-- ---- the name itself
-- each name is counted as it should be, where the others were and this one is
by_name : (x : Name) (count should : Name → ℕ) → ((y : Name) → same_name x y ≡ false → count y ≡ should y) →
    count x ≡ should x → (y : Name) → count y ≡ should y
by_name x count should others here y = choose (same_name x y) refl
  where
    choose : (b : Bool) → same_name x y ≡ b → count y ≡ should y
    choose true e = subst (λ (z : Name). count z ≡ should z) (names_law x y e) here
    choose false e = others y e

module _ (x : Name) (repeatable : List Pile) (should : Name → ℕ) (up : Ascend repeatable)
    (others : (y : Name) → same_name x y ≡ false → count_of y repeatable ≡ should y) where
  pub settled_same : count_of x repeatable ≡ should x → (y : Name) → count_of y repeatable ≡ should y
  settled_same here = by_name x (λ y. count_of y repeatable) should others here

  pub settled_more : count_of x repeatable ≡ 0 → should x ≡ 1 → (y : Name) → count_of y (more x repeatable) ≡ should y
  settled_more none one =
      by_name x (λ y. count_of y (more x repeatable)) should
      (λ y other. other_more x y repeatable up other ∙ others y other)
      (more_here ∙ sym one)
    where
      more_here : count_of x (more x repeatable) ≡ 1
      more_here =
          count_more x x repeatable up
          ∙ ap (λ (b : Bool). if b then min (count_of x repeatable + 1) 255 else count_of x repeatable)
          (same_self (numbers_of x))
          ∙ ap (λ (n : ℕ). min (n + 1) 255) none

  pub settled_fewer : count_of x repeatable ≤ 1 → should x ≡ 0 → (y : Name) → count_of y (fewer x repeatable) ≡ should y
  settled_fewer once none =
      by_name x (λ y. count_of y (fewer x repeatable)) should
      (λ y other. other_fewer x y repeatable up other ∙ others y other)
      (fewer_here ∙ sym none)
    where
      fewer_here : count_of x (fewer x repeatable) ≡ 0
      fewer_here =
          count_fewer x x repeatable up
          ∙ ap (λ (b : Bool). if b then count_of x repeatable - 1 else count_of x repeatable) (same_self (numbers_of x))
          ∙ omega arith

-- what is right stays so where the counts of the name stay
pub stays_right : (w : Wire) (kept copies : List Pile) (y : Name) → IsRight w y →
    count_of y kept ≡ count_of y w.kept → count_of y copies ≡ count_of y w.copies →
    count_of y w.repeatable ≡ right (record { copies = copies; acks = w.acks; kept = kept }) y
stays_right w kept copies y is same_kept same_copies =
    is
    ∙ right_along (traffic_of w) (record { copies = copies; acks = w.acks; kept = kept }) y same_kept same_copies

-- by a test whether the name can be sent again
pub right_if : (t : Traffic) (x : Name) (b : Bool) → b ≡ can_repeat t x → right t x ≡ (if b then 1 else 0)
right_if t x b is = ap (λ (q : Bool). if q then 1 else 0) (sym is)

one_from : (n : ℕ) → n ≤ 1 → 0 < n → n ≡ 1
one_from n few some = omega arith

none_from : (n : ℕ) → n ≤ 0 → n ≡ 0
none_from n few = omega arith

-- a name stands right already
pub right_there : (t : Traffic) (x : Name) (can : Bool) (count : ℕ) → can ≡ can_repeat t x → count ≤ 1 →
    ((can ≡ true) × (0 < count)) ⊎ (can ≡ false) → ((0 < count) × (can ≡ true)) ⊎ (count ≤ 0) → count ≡ right t x
right_there t x can count is few (inl both) there =
    one_from count few both.1 ∙ sym (right_if t x can is ∙ ap (λ (q : Bool). if q then 1 else 0) both.0)
right_there t x can count is few (inr apart) (inl both) = absurd (false≢true (sym apart ∙ both.1))
right_there t x can count is few (inr apart) (inr none) =
    none_from count none ∙ sym (right_if t x can is ∙ ap (λ (q : Bool). if q then 1 else 0) apart)
