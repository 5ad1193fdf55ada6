-- The actions of a round lead on to the next round.
use Rattle.std.proofs.Common.{◌≡◌, ◌≢◌, ℕ, zero, suc, ◌+◌, ◌-◌, ◌<◌, ◌≤◌, Bool, true, false, List, [], ◌∷◌, ◌++◌, refl, arith, ⊎_elim}
use Rattle.std.specs.List.{flat_map, range_with_len}
use Rattle.std.proofs.lemmas.Bool.{cases_eq}
use Rattle.vert_base.specs.declared.value.Ruling.{Ruling}
use Rattle.vert_base.specs.declared.value.Ruling.TheVariants.{Stop, Dense, Sparse}
use Rattle.circulant_plan.specs.declared.spot.Ring.{Ring}
use Rattle.circulant_plan.specs.declared.spot.Spot.{Spot}
use Rattle.circulant_plan.specs.declared.spot.Spot.TheVariants.{Judge, Begin, Scan, Close}
use Rattle.circulant_plan.specs.Table.{next_spot}
use Rattle.circulant_plan.specs.Counts.{judges_of, round_spots, LeadsThrough, RoundsLeadOn}
use Rattle.circulant_plan.proofs.StandingLaws.{is_zero, not_zero, below_true, below_false}

stop_other : Dense ≢ Stop
stop_other e = grind arith

module _ (ring : Ring) (m : ℕ) (r : ℕ) where
  judge_leads : (ruling : Ruling) → ruling ≢ Stop → next_spot ring m (Judge r) ruling ≡ Begin (r + 1)
  judge_leads Stop mode = absurd (mode refl)
  judge_leads Dense mode = refl
  judge_leads Sparse mode = refl

  close_leads : (ruling : Ruling) (dense : Bool) → ruling ≢ Stop →
      LeadsThrough ring m ruling (Close r dense ∷ judges_of m r) (Begin (r + 1))
  close_leads ruling dense mode =
      ⊎_elim
      (λ (first : m ≡ 0). let b = is_zero m first in rw b (rw b refl, judge_leads ruling mode))
      (λ (other : m ≢ 0). let b = not_zero m other in rw b (rw b refl))
      (cases_eq m 0)

  -- the scans from step s on, after the first half of the step before
  abbrev scans_from : ℕ → ℕ → List Spot
  scans_from s k = flat_map (λ i. Scan r i 0 ∷ Scan r i 1 ∷ []) (range_with_len s k) ++ Close r true ∷ judges_of m r

  second_leads : (k s : ℕ) → s + 1 + k ≡ ring.machines →
      LeadsThrough ring m Dense (Scan r s 1 ∷ scans_from (s + 1) k) (Begin (r + 1))
  second_leads zero s e =
      let last = below_false s (ring.machines - 1) (omega arith) in
      let one : next_spot ring m (Scan r s 1) Dense ≡ Close r true = rw last refl in
      (one, close_leads Dense true stop_other)
  second_leads (suc k) s e =
      let more = below_true s (ring.machines - 1) (omega arith) in
      let one : next_spot ring m (Scan r s 1) Dense ≡ Scan r (s + 1) 0 = rw more refl in
      (one, (refl, second_leads k (s + 1) (omega arith)))

  dense_leads : 1 ≤ ring.machines → (k : ℕ) → k ≡ ring.machines →
      LeadsThrough ring m Dense (Begin r ∷ scans_from 0 k) (Begin (r + 1))
  dense_leads some zero e = absurd (omega arith)
  dense_leads some (suc k) e = (refl, (refl, second_leads k 0 (omega arith)))

  pub round_leads : (ruling : Ruling) → m < ring.machines → ruling ≢ Stop →
      LeadsThrough ring m ruling (round_spots ring m r ruling) (Begin (r + 1))
  round_leads Stop within mode = absurd (mode refl)
  round_leads Dense within mode = dense_leads (omega arith) ring.machines refl
  round_leads Sparse within mode = (refl, close_leads Sparse false mode)

pub rounds_lead_on : RoundsLeadOn
rounds_lead_on ring m r ruling within mode = round_leads ring m r ruling within mode
