-- Each action leads on in a machine's list.
use Rattle.std.proofs.Common.{◌≡◌, ◌≢◌, ℕ, ◌-◌, ◌<◌, ◌≤◌, true, false, ◌==◌, nat_lt, refl, arith, ⊎_elim}
use Rattle.std.proofs.lemmas.Bool.{cases_lt, cases_eq}
use Rattle.std.proofs.lemmas.Bool.Decides.{nat_tests}
use Rattle.vert_base.specs.declared.value.Ruling.{Ruling}
use Rattle.vert_base.specs.declared.value.Ruling.TheVariants.{Stop, Dense, Sparse}
use Rattle.circulant_plan.specs.declared.spot.Ring.{Ring}
use Rattle.circulant_plan.specs.declared.spot.Spot.{Spot}
use Rattle.circulant_plan.specs.declared.spot.Spot.TheVariants.{Tell, Judge, Begin, Scan, Close, Over}
use Rattle.circulant_plan.specs.Standing.{round_of}
use Rattle.circulant_plan.specs.Deliveries.{HasSpot, IsOneOn, ActionsLeadOn}

pub is_zero : (m : ℕ) → m ≡ 0 → (m == 0) ≡ true
is_zero m e = grind (arith, nat_tests)

pub not_zero : (m : ℕ) → m ≢ 0 → (m == 0) ≡ false
not_zero m e = grind (arith, nat_tests)

pub below_true : (a b : ℕ) → a < b → nat_lt a b ≡ true
below_true a b h = grind (arith, nat_tests)

pub below_false : (a b : ℕ) → b ≤ a → nat_lt a b ≡ false
below_false a b h = grind (arith, nat_tests)

module _ (ring : Ring) (m : ℕ) (small : ring.machines ≤ 64) (within : m < ring.machines) where
  leads : (ruling : Ruling) (spot : Spot) (round : ℕ) → HasSpot ring m ruling spot →
      round ≡ round_of round spot → spot ≢ Over → ((r : ℕ) → spot ≡ Begin r → ruling ≢ Stop) →
      IsOneOn ring m ruling (record { spot = spot; round = round })
  leads ruling Tell round has e on mode =
      ⊎_elim
      (λ (zero_at : m ≡ 0).
      let b = is_zero m zero_at in
      record { has = rw b zero_at; later = rw b (omega arith); round = rw b refl })
      (λ (other : m ≢ 0).
      let b = not_zero m other in
      record { has = rw b (omega arith); later = rw b (omega arith); round = rw b refl })
      (cases_eq m 0)
  leads Stop (Judge r) round has e on mode = record { has = tt; later = omega arith; round = refl }
  leads Dense (Judge r) round has e on mode = record { has = omega arith; later = omega arith; round = refl }
  leads Sparse (Judge r) round has e on mode = record { has = omega arith; later = omega arith; round = refl }
  leads Stop (Begin r) round has e on mode = absurd (mode r refl refl)
  leads Dense (Begin r) round has e on mode =
      record { has = (has, omega arith, omega arith, refl); later = omega arith; round = refl }
  leads Sparse (Begin r) round has e on mode = record { has = (has, refl); later = omega arith; round = refl }
  leads ruling (Scan r s h) round has e on mode =
      let some = has.0 in let step = has.1 in let half = has.2 in let dense = has.3 in
      ⊎_elim
      (λ (first : h ≡ 0).
      let b = is_zero h first in
      record { has = rw b (some, step, omega arith, dense); later = rw b (omega arith); round = rw b refl })
      (λ (second : h ≢ 0).
      let b = not_zero h second in
      ⊎_elim
      (λ (more : s < ring.machines - 1).
      let c = below_true s (ring.machines - 1) more in
      record {
        has = rw (b, c) (some, omega arith, omega arith, dense);
        later = rw (b, c) (omega arith);
        round = rw (b, c) refl;
      })
      (λ (last : ring.machines - 1 ≤ s).
      let c = below_false s (ring.machines - 1) last in
      record { has = rw (b, c) (some, dense); later = rw (b, c) (omega arith); round = rw (b, c) refl })
      (cases_lt s (ring.machines - 1)))
      (cases_eq h 0)
  leads ruling (Close r dense) round has e on mode =
      ⊎_elim
      (λ (zero_at : m ≡ 0).
      let b = is_zero m zero_at in
      record { has = rw b zero_at; later = rw b (omega arith); round = rw b refl })
      (λ (other : m ≢ 0).
      let b = not_zero m other in
      record { has = rw b (omega arith); later = rw b (omega arith); round = rw b refl })
      (cases_eq m 0)
  leads ruling Over round has e on mode = absurd (on refl)

pub actions_lead_on : ActionsLeadOn
actions_lead_on ring m ruling s within small has e on mode =
    leads ring m small within ruling s.spot s.round has e on mode
