-- What the action of a machine changes, by its spot.
use Rattle.std.proofs.Common.{◌≡◌, ◌≢◌, ℕ, ◌+◌, ◌-◌, ◌≤◌, Bool, true, false, ◌==◌, nat_le, nat_lt, List, ◌∷◌, refl, ap, sym, ◌∙◌, subst, arith, ⊎_elim}
use Rattle.std.specs.Prelude.{if◌then◌else◌}
use Rattle.std.proofs.lemmas.Bool.{cases_eq, false≢true, and_parts}
use Rattle.std.proofs.lemmas.Bool.Decides.{nat_tests}
use Rattle.vert_base.specs.declared.value.Ruling.{Ruling}
use Rattle.vert_base.specs.declared.value.Ruling.TheVariants.{Stop, Dense, Sparse}
use Rattle.circulant_plan.specs.declared.spot.Ring.{Ring}
use Rattle.circulant_plan.specs.declared.spot.Spot.{Spot}
use Rattle.circulant_plan.specs.declared.spot.Spot.TheVariants.{Tell, Judge, Begin, Scan, Close, Over}
use Rattle.circulant_plan.specs.Standing.{round_of}
use Rattle.circulant_plan.specs.Skeleton.{Blocks, ruling_in, may_rule, is_over, rules_rightly, acting_ruling, rulings_after}
use Rattle.circulant_plan.proofs.StandingLaws.{is_zero}
use Rattle.circulant_plan.proofs.ActionLaws.{next_of}

-- a spot is that of a judge, or the action there makes no ruling
pub data IsJudge (spot : Spot) : Type 0 where
  judge : (r : ℕ) → spot ≡ Judge r → IsJudge spot
  other : ((r : ℕ) → spot ≢ Judge r) →
      ((ruling : Ruling) (made : List (ℕ × Ruling)) → rulings_after ruling spot made ≡ made) → IsJudge spot

abbrev judge_test : Spot → Bool
judge_test Tell = false
judge_test (Judge r) = true
judge_test (Begin r) = false
judge_test (Scan r s h) = false
judge_test (Close r dense) = false
judge_test Over = false

no_judge : (spot : Spot) → judge_test spot ≡ false → (r : ℕ) → spot ≢ Judge r
no_judge spot e r is = false≢true (sym e ∙ ap judge_test is)

pub judges : (spot : Spot) → IsJudge spot
judges Tell = other (no_judge Tell refl) (λ ruling made. refl)
judges (Judge r) = judge r refl
judges (Begin r) = other (no_judge (Begin r) refl) (λ ruling made. refl)
judges (Scan r s h) = other (no_judge (Scan r s h) refl) (λ ruling made. refl)
judges (Close r dense) = other (no_judge (Close r dense) refl) (λ ruling made. refl)
judges Over = other (no_judge Over refl) (λ ruling made. refl)

not_same : (a b : ℕ) → a ≢ b → (a == b) ≡ false
not_same a b ne = grind (arith, nat_tests)

pub self_same : (a : ℕ) → (a == a) ≡ true
self_same a = grind (arith, nat_tests)

-- the rulings of other rounds stay
pub ruling_other : (made : List (ℕ × Ruling)) (a : Ruling) (n q : ℕ) → n ≢ q →
    ruling_in ((n, a) ∷ made) q ≡ ruling_in made q
ruling_other made a n q ne = rw (not_same n q ne) refl

pub ruling_here : (made : List (ℕ × Ruling)) (a : Ruling) (n : ℕ) → ruling_in ((n, a) ∷ made) n ≡ a
ruling_here made a n = rw (self_same n) refl

pub old_ruling : (spot : Spot) (ruling : Ruling) (made : List (ℕ × Ruling)) (q : ℕ) →
    ((r : ℕ) → spot ≡ Judge r → q ≤ r) → ruling_in (rulings_after ruling spot made) q ≡ ruling_in made q
old_ruling Tell ruling made q early = refl
old_ruling (Judge r) ruling made q early =
    ruling_other made ruling (r + 1) q (λ e. let lt = early r refl in omega arith)
old_ruling (Begin r) ruling made q early = refl
old_ruling (Scan r s h) ruling made q early = refl
old_ruling (Close r dense) ruling made q early = refl
old_ruling Over ruling made q early = refl

-- a ruling that isn't stop is within the limit
le_from : (a b : ℕ) → nat_le a b ≡ true → a ≤ b
le_from a b e = grind (arith, nat_tests)

pub may_limit : (blocks : Blocks) (r : ℕ) (ruling : Ruling) → may_rule blocks r ruling ≡ true →
    ruling ≢ Stop → r ≤ blocks.limit
may_limit blocks r Stop may going = absurd (going refl)
may_limit blocks r Dense may going = le_from r blocks.limit (and_parts blocks.dense (nat_le r blocks.limit) may).1
may_limit blocks r Sparse may going = le_from r blocks.limit (and_parts blocks.sparse (nat_le r blocks.limit) may).1

pub allowed_after : (blocks : Blocks) (spot : Spot) (ruling : Ruling) (made : List (ℕ × Ruling)) →
    rules_rightly blocks ruling spot ≡ true → ((r : ℕ) → may_rule blocks r (ruling_in made r) ≡ true) →
    (r : ℕ) → may_rule blocks r (ruling_in (rulings_after ruling spot made) r) ≡ true
allowed_after blocks Tell ruling made rightly old r = old r
allowed_after blocks (Judge q) ruling made rightly old r =
    ⊎_elim
    (λ (e : q + 1 ≡ r).
    let here : ruling_in ((q + 1, ruling) ∷ made) r ≡ ruling =
    subst (λ i. ruling_in ((q + 1, ruling) ∷ made) i ≡ ruling) e (ruling_here made ruling (q + 1)) in
    subst (λ a. may_rule blocks r a ≡ true) (sym here) (subst (λ i. may_rule blocks i ruling ≡ true) e rightly))
    (λ (ne : q + 1 ≢ r). subst (λ a. may_rule blocks r a ≡ true) (sym (ruling_other made ruling (q + 1) r ne)) (old r))
    (cases_eq (q + 1) r)
allowed_after blocks (Begin q) ruling made rightly old r = old r
allowed_after blocks (Scan q s h) ruling made rightly old r = old r
allowed_after blocks (Close q dense) ruling made rightly old r = old r
allowed_after blocks Over ruling made rightly old r = old r

never_over : (b : Bool) (x y : Spot) → is_over x ≡ false → is_over y ≡ false → is_over (if b then x else y) ≡ false
never_over true x y e f = e
never_over false x y e f = f

stays : (b : Bool) (r : ℕ) (x y : Spot) → round_of r x ≡ r → round_of r y ≡ r → round_of r (if b then x else y) ≡ r
stays true r x y e f = e
stays false r x y e f = f

module _ (ring : Ring) (m : ℕ) where
  -- an action that ends a list is that of a judge who rules stop
  pub ends_at_judge : (ruling : Ruling) (spot : Spot) → is_over spot ≡ false →
      ((r : ℕ) → spot ≡ Begin r → ruling ≢ Stop) → is_over (next_of ring m ruling spot).spot ≡ true →
      (r : ℕ) × (spot ≡ Judge r) × (ruling ≡ Stop)
  ends_at_judge ruling Tell going mode over =
      absurd (false≢true (sym (never_over (m == 0) (Judge 0) (Begin 1) refl refl) ∙ over))
  ends_at_judge Stop (Judge r) going mode over = (r, refl, refl)
  ends_at_judge Dense (Judge r) going mode over = absurd (false≢true over)
  ends_at_judge Sparse (Judge r) going mode over = absurd (false≢true over)
  ends_at_judge Stop (Begin r) going mode over = absurd (mode r refl refl)
  ends_at_judge Dense (Begin r) going mode over = absurd (false≢true over)
  ends_at_judge Sparse (Begin r) going mode over = absurd (false≢true over)
  ends_at_judge ruling (Scan r s h) going mode over =
      absurd
      (false≢true
      (sym
      (never_over (h == 0) (Scan r s 1)
      (if nat_lt s (ring.machines - 1) then Scan r (s + 1) 0 else Close r true) refl
      (never_over (nat_lt s (ring.machines - 1)) (Scan r (s + 1) 0)
      (Close r true) refl refl))
      ∙ over))
  ends_at_judge ruling (Close r dense) going mode over =
      absurd (false≢true (sym (never_over (m == 0) (Judge r) (Begin (r + 1)) refl refl) ∙ over))
  ends_at_judge ruling Over going mode over = absurd (false≢true (sym going))

  -- machine 0 begins a round by its judge alone
  pub same_round : (ruling : Ruling) (spot : Spot) → m ≡ 0 → is_over spot ≡ false →
      ((r : ℕ) → spot ≢ Judge r) → (next_of ring m ruling spot).round ≡ round_of 0 spot
  same_round ruling Tell first going none = rw (is_zero m first) refl
  same_round ruling (Judge r) first going none = absurd (none r refl)
  same_round Stop (Begin r) first going none = refl
  same_round Dense (Begin r) first going none = refl
  same_round Sparse (Begin r) first going none = refl
  same_round ruling (Scan r s h) first going none =
      stays (h == 0) r (Scan r s 1)
      (if nat_lt s (ring.machines - 1) then Scan r (s + 1) 0 else Close r true) refl
      (stays (nat_lt s (ring.machines - 1)) r (Scan r (s + 1) 0) (Close r true) refl refl)
  same_round ruling (Close r dense) first going none = rw (is_zero m first) refl
  same_round ruling Over first going none = absurd (false≢true (sym going))

  -- a judge goes on to the next round
  judge_round_of : (ruling : Ruling) (r : ℕ) → (next_of ring m ruling (Judge r)).round ≡ r + 1
  judge_round_of Stop r = refl
  judge_round_of Dense r = refl
  judge_round_of Sparse r = refl

  pub judge_round : (ruling : Ruling) (spot : Spot) (r : ℕ) → spot ≡ Judge r →
      (next_of ring m ruling spot).round ≡ r + 1
  judge_round ruling spot r e = subst (λ q. (next_of ring m ruling q).round ≡ r + 1) (sym e) (judge_round_of ruling r)

  judge_over_of : (ruling : Ruling) (r : ℕ) → ruling ≡ Stop → is_over (next_of ring m ruling (Judge r)).spot ≡ true
  judge_over_of Stop r e = refl
  judge_over_of Dense r e = absurd (grind arith)
  judge_over_of Sparse r e = absurd (grind arith)

  pub judge_over : (ruling : Ruling) (spot : Spot) (r : ℕ) → spot ≡ Judge r → ruling ≡ Stop →
      is_over (next_of ring m ruling spot).spot ≡ true
  judge_over ruling spot r e stop =
      subst (λ q. is_over (next_of ring m ruling q).spot ≡ true) (sym e) (judge_over_of ruling r stop)

  judge_going_of : (ruling : Ruling) (r : ℕ) → is_over (next_of ring m ruling (Judge r)).spot ≡ false → ruling ≢ Stop
  judge_going_of Stop r going e = false≢true (sym going)
  judge_going_of Dense r going e = grind arith
  judge_going_of Sparse r going e = grind arith

  pub judge_going : (ruling : Ruling) (spot : Spot) (r : ℕ) → spot ≡ Judge r →
      is_over (next_of ring m ruling spot).spot ≡ false → ruling ≢ Stop
  judge_going ruling spot r e going =
      judge_going_of ruling r (subst (λ q. is_over (next_of ring m ruling q).spot ≡ false) e going)

-- the ruling by which a judge acts is the one that it makes; at a begin it is the known one
pub acting_judge : (ruling known : Ruling) (spot : Spot) (r : ℕ) → spot ≡ Judge r →
    acting_ruling ruling known spot ≡ ruling
acting_judge ruling known spot r e = subst (λ q. acting_ruling ruling known q ≡ ruling) (sym e) refl

pub acting_begin : (ruling : Ruling) (made : List (ℕ × Ruling)) (spot : Spot) (r : ℕ) → spot ≡ Begin r →
    acting_ruling ruling (ruling_in made (round_of 0 spot)) spot ≡ ruling_in made r
acting_begin ruling made spot r e =
    subst (λ q. acting_ruling ruling (ruling_in made (round_of 0 q)) q ≡ ruling_in made r) (sym e) refl
