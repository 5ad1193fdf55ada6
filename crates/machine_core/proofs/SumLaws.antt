-- The sums over all machines, one tally after another.
use Rattle.std.proofs.Common.{◌≡◌, ℕ, ◌+◌, ◌-◌, ◌*◌, ◌<◌, ◌≤◌, ◌^◌, List, [], ◌∷◌, map, ap, sym, subst, arith}
use Rattle.std.specs.List.{range_with_len}
use Rattle.std.proofs.Math.Logic.{∥∥₁_elim, ∥∥₁_map}
use Rattle.std.proofs.Props.{props}
use Rattle.vert_tree.specs.declared.program.TotalDecl.{TotalDecl}
use Rattle.body_shape.specs.Tally.{Counted}
use Rattle.vert_tree.proofs.TypedLaws.{few_rounds}
use Rattle.circulant_plan.specs.declared.spot.Spot.TheVariants.{Judge}
use Rattle.circulant_plan.specs.Table.{others_of}
use Rattle.symple_face.specs.CoreJudge.{all_joined, joined, judge_go, sums_at, tally_of}
use Rattle.symple_face.specs.CoreSight.{program_of}
use Rattle.symple_face.specs.State.{State, machine, p_of}
use Rattle.mirror_table.proofs.RangeLaws.{range_first}
use Rattle.work_laws.specs.Sound.{FitsSpot, core_sound}
use Rattle.work_laws.proofs.Counts.{judge_go_fits, sums_fit}

-- numbers at most as great as others
pub record AreBelow (a b : Counted) : Type 0 where
  pub active : a.active ≤ b.active
  pub edges : a.edges ≤ b.edges
  pub reads : a.reads ≤ b.reads

pub grows : (ts : List TotalDecl) (a : Counted) (bs : List Counted) → AreBelow a (all_joined ts a bs)
grows ts a [] = record { active = omega arith; edges = omega arith; reads = omega arith }
grows ts a (b ∷ bs) =
    let more = grows ts (joined ts a b) bs in
    let x = more.active in
    let y = more.edges in
    let z = more.reads in
    record { active = omega arith; edges = omega arith; reads = omega arith }

-- the sums so far, and the tallies that are left, give all
abbrev pub left_from : State → ℕ → Counted → ℕ → Counted
left_from s r a from =
    all_joined (program_of s.split).totals.items a (map (tally_of s r) (range_with_len from (p_of s - from)))

pub left_first : (s : State) (r : ℕ) (a : Counted) →
    all_joined (program_of s.split).totals.items a (map (tally_of s r) (others_of (p_of s) 0)) ≡ left_from s r a 1
left_first s r a =
    let e : p_of s - 1 - 0 ≡ p_of s - 1 = omega arith in
    ap (λ n. all_joined (program_of s.split).totals.items a (map (tally_of s r) (range_with_len 1 n))) e

pub left_more : (s : State) (r : ℕ) (a : Counted) (from : ℕ) → from < p_of s →
    left_from s r a from
    ≡ left_from s r (joined (program_of s.split).totals.items a (tally_of s r from)) (from + 1)
left_more s r a from lt =
    ap (λ ks. all_joined (program_of s.split).totals.items a (map (tally_of s r) ks)) (range_first from (p_of s) lt)

pub left_none : (s : State) (r : ℕ) (a : Counted) (from : ℕ) → p_of s ≤ from → left_from s r a from ≡ a
left_none s r a from past =
    let none : p_of s - from ≡ 0 = omega arith in
    ap (λ n. all_joined (program_of s.split).totals.items a (map (tally_of s r) (range_with_len from n))) none

-- ---- their size
pub record AreLow (c : Counted) : Type 0 where
  pub active : c.active ≤ 64 * 2 ^ 32
  pub edges : c.edges ≤ 64 * 2 ^ 32
  pub reads : c.reads ≤ 64 * 2 ^ 32

low_prop : (c : Counted) → IsProp (AreLow c)
low_prop c = hlevel props

pub sums_low : (s : State) (r : ℕ) → ∥ core_sound s ∥₁ → r < 2 ^ 32 → AreLow (sums_at s r)
sums_low s r sound small =
    ∥∥₁_elim sound (low_prop (sums_at s r))
    (λ k.
    let fit = sums_fit s k.can k.fits r small in
    record { active = fit.active; edges = fit.edges; reads = fit.reads })

-- ---- the judge
pub judge_low : (s : State) (r : ℕ) → ∥ core_sound s ∥₁ → s.at.spot ≡ Judge r → (machine s ≡ 0) × (r ≤ 10000)
judge_low s r sound at =
    ∥∥₁_elim sound (hlevel props)
    (λ k.
    let spot = subst (FitsSpot s) at k.spot in
    let few = few_rounds (program_of s.split) k.can.program.typed in
    let low = spot.1 in
    (spot.0, omega arith))

pub judged_sound : (s : State) (r : ℕ) → s.at.spot ≡ Judge r → ∥ core_sound s ∥₁ → ∥ core_sound (judge_go s r) ∥₁
judged_sound s r at sound =
    ∥∥₁_map sound
    (λ k.
    let spot = subst (FitsSpot s) at k.spot in
    let few = few_rounds (program_of s.split) k.can.program.typed in
    let low = spot.1 in
    let after : FitsSpot (judge_go s r) (Judge r) = spot in
    record {
      can = k.can;
      fits = judge_go_fits s k.can k.fits r (omega arith);
      round = k.round;
      spot = subst (FitsSpot (judge_go s r)) (sym at) after;
    })
