-- The actions of a round, how many there are, and how many messages they send.
use Rattle.std.specs.Prelude.{◌≡◌, ◌≢◌, ◌<◌, ◌≤◌, ℕ, ◌+◌, ◌-◌, ◌*◌, ◌==◌, true, false, if◌then◌else◌, List, [], ◌∷◌, ◌++◌, length}
use Rattle.std.specs.List.{flat_map, range_with_len, sum_by}
use Rattle.vert_base.specs.declared.message.Name.{Name}
use Rattle.vert_base.specs.declared.value.Ruling.{Ruling}
use Rattle.vert_base.specs.declared.value.Ruling.TheVariants.{Stop, Dense, Sparse}
use Rattle.circulant_plan.specs.declared.spot.Ring.{Ring}
use Rattle.circulant_plan.specs.declared.spot.Spot.{Spot}
use Rattle.circulant_plan.specs.declared.spot.Spot.TheVariants.{Tell, Judge, Begin, Scan, Close}
use Rattle.circulant_plan.specs.Table.{gives_of, next_spot}

-- machine 0 alone judges
abbrev pub judges_of : ℕ → ℕ → List Spot
judges_of m r = if m == 0 then Judge r ∷ [] else []

-- the scans of a round of p machines: by step, and within a step by half
abbrev pub scans_of : ℕ → ℕ → List Spot
scans_of p r = flat_map (λ s. Scan r s 0 ∷ Scan r s 1 ∷ []) (range_with_len 0 p)

-- the spots of machine m before round 1
abbrev pub first_spots : ℕ → List Spot
first_spots m = Tell ∷ judges_of m 0

-- the spots of machine m in a round by this ruling
abbrev pub round_spots : Ring → ℕ → ℕ → Ruling → List Spot
round_spots ring m r Stop = []
round_spots ring m r Dense = Begin r ∷ (scans_of ring.machines r ++ Close r true ∷ judges_of m r)
round_spots ring m r Sparse = Begin r ∷ Close r false ∷ judges_of m r

-- the action of each spot leads to the next spot, and that of the last one to `end`
abbrev pub LeadsThrough : Ring → ℕ → Ruling → List Spot → Spot → Type 0
LeadsThrough ring m ruling [] end = Unit {0}
LeadsThrough ring m ruling (a ∷ []) end = next_spot ring m a ruling ≡ end
LeadsThrough ring m ruling (a ∷ b ∷ rest) end =
    (next_spot ring m a ruling ≡ b) × LeadsThrough ring m ruling (b ∷ rest) end

-- what machine m sends at these spots
abbrev pub gifts_at : Ring → ℕ → Ruling → List Spot → List Name
gifts_at ring m ruling spots = flat_map (λ spot. gives_of ring m spot ruling) spots

-- the sum over all machines
abbrev pub over_machines : ℕ → (ℕ → ℕ) → ℕ
over_machines p count = sum_by count (range_with_len 0 p)

abbrev pub goes_in : Ring → ℕ → Ruling → ℕ
goes_in ring r ruling = over_machines ring.machines (λ m. length (round_spots ring m r ruling))

abbrev pub takes_in : Ring → ℕ → Ruling → ℕ
takes_in ring r ruling =
    over_machines ring.machines (λ m. length (gifts_at ring m ruling (round_spots ring m r ruling)))

-- the goes before round 1 and of a round, and the messages sent in them
pub record HasCounts (p : ℕ) (ring : Ring) (r : ℕ) : Type 0 where
  pub first_goes : over_machines p (λ m. length (first_spots m)) ≡ p + 1
  pub first_takes : (ruling : Ruling) →
      over_machines p (λ m. length (gifts_at ring m ruling (first_spots m))) ≡ 2 * (p - 1)
  pub dense_goes : goes_in ring r Dense ≡ p * (2 * p + 2) + 1
  pub carry_takes : ring.carry ≡ true → takes_in ring r Dense ≡ 5 * p * (p - 1) + 2 * (p - 1)
  pub plain_takes : ring.carry ≡ false → takes_in ring r Dense ≡ 3 * p * (p - 1) + 2 * (p - 1)
  pub sparse_goes : goes_in ring r Sparse ≡ 2 * p + 1
  pub sparse_takes : takes_in ring r Sparse ≡ p * (p - 1) + 2 * (p - 1)

abbrev pub RoundsAreCounted : Type 0
RoundsAreCounted = (ring : Ring) (r : ℕ) → 1 ≤ ring.machines → HasCounts ring.machines ring r

-- by a ruling that isn't stop the actions of a round lead through its spots to the next round
abbrev pub RoundsLeadOn : Type 0
RoundsLeadOn =
    (ring : Ring) (m r : ℕ) (ruling : Ruling) → m < ring.machines → ruling ≢ Stop →
    LeadsThrough ring m ruling (round_spots ring m r ruling) (Begin (r + 1))
