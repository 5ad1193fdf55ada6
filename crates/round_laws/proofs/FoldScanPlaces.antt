-- The scans that are past behind a scan, and the spot behind it.
use Rattle.std.proofs.Common.{◌≡◌, ◌<◌, ◌≤◌, ◌+◌, ◌-◌, ◌*◌, ℕ, zero, suc, Bool, true, false, List, refl, arith}
use Rattle.std.specs.Prelude.{◌==◌, ◌&&◌, ◌||◌, if◌then◌else◌, nat_lt}
use Rattle.std.proofs.lemmas.Bool.Decides.{nat_tests}
use Rattle.vert_base.specs.Letters.{Letter}
use Rattle.circulant_plan.specs.declared.spot.Spot.{Spot}
use Rattle.circulant_plan.specs.declared.spot.Spot.TheVariants.{Close, Scan}
use Rattle.circulant_plan.specs.Standing.{place_of, standing_at}
use Rattle.symple_face.specs.CoreWork.{held_at}
use Rattle.round_laws.specs.IsIdeal.{awaits_begin, is_open, is_past, rows_round}

-- the scan of a step and a half, and behind it a spot of the same round, with no other scan between
pub record IsBehindScan (p round step h : ℕ) (x : Spot) : Type 0 where
  pub going : is_open x ≡ true
  pub begun : awaits_begin x ≡ false
  pub before : rows_round round x ≡ round
  pub keeps : (held : List Letter) → held_at x held ≡ held
  pub stands : standing_at round x ≡ record { spot = x; round = round }
  pub later : place_of (record { spot = Scan round step h; round = round }) ≤
      place_of (record { spot = x; round = round })
  pub past : (k g : ℕ) → k < p → g ≤ 1 →
      is_past (record { spot = x; round = round }) k g ≡
      (is_past (record { spot = Scan round step h; round = round }) k g || (k == step && g == h))

-- the next scan comes right behind
module _ (r a b k step g h : ℕ) where
  next_place : g ≤ 1 → h ≤ 1 → a ≡ 256 * r + (1 + 2 * step + h) → b ≡ a + 1 →
      nat_lt (256 * r + (1 + 2 * k + g)) b ≡ (nat_lt (256 * r + (1 + 2 * k + g)) a || (k == step && g == h))
  next_place gl hl is on = grind (arith, nat_tests)

-- and the close behind all scans
module _ (r b k step p g : ℕ) where
  last_place : g ≤ 1 → k < p → p ≤ 64 → step + 1 ≡ p → b ≡ 256 * r + 254 →
      nat_lt (256 * r + (1 + 2 * k + g)) b ≡ (nat_lt (256 * r + (1 + 2 * k + g)) (256 * r + (1 + 2 * step + 1))
      || (k == step && g == 1))
  last_place gl low few last is = grind (arith, nat_tests)

-- a step that isn't before the last is the last one
pub last_step : (step p : ℕ) → step < p → nat_lt step (p - 1) ≡ false → step + 1 ≡ p
last_step step p early is = let late : p - 1 ≤ step = not_less step (p - 1) is in omega (arith, late, early)
  where
    not_less : (a b : ℕ) → nat_lt a b ≡ false → b ≤ a
    not_less a b is = grind (arith, nat_tests)

module _ (p round step : ℕ) (few : p ≤ 64) (early : step < p) where
  to_second : IsBehindScan p round step 0 (Scan round step 1)
  to_second = record {
    going = refl;
    begun = refl;
    before = refl;
    keeps = λ held. refl;
    stands = refl;
    later = omega arith;
    past = λ k g low least.
        next_place round (256 * round + (1 + 2 * step + 0)) (256 * round + (1 + 2 * step + 1)) k step g 0 least
        (omega arith) refl (omega arith);
  }

  to_next : IsBehindScan p round step 1 (Scan round (step + 1) 0)
  to_next = record {
    going = refl;
    begun = refl;
    before = refl;
    keeps = λ held. refl;
    stands = refl;
    later = omega arith;
    past = λ k g low least.
        next_place round (256 * round + (1 + 2 * step + 1)) (256 * round + (1 + 2 * (step + 1) + 0)) k step g 1 least
        (omega arith) refl (omega arith);
  }

  to_close : step + 1 ≡ p → IsBehindScan p round step 1 (Close round true)
  to_close last = record {
    going = refl;
    begun = refl;
    before = refl;
    keeps = λ held. refl;
    stands = refl;
    later = omega (arith, few, last);
    past = λ k g low least. last_place round (256 * round + 254) k step p g least low few last refl;
  }

  -- the spot behind a scan
  abbrev pub behind : ℕ → Spot
  behind h =
      if h == 0 then Scan round step 1 else if nat_lt step (p - 1) then Scan round (step + 1) 0 else Close round true

  pub is_behind : (h : ℕ) → h ≤ 1 → IsBehindScan p round step h (behind h)
  is_behind zero le = to_second
  is_behind (suc zero) le = by (nat_lt step (p - 1)) refl
    where
      by : (b : Bool) → nat_lt step (p - 1) ≡ b →
          IsBehindScan p round step 1 (if b then Scan round (step + 1) 0 else Close round true)
      by true is = to_next
      by false is = to_close (last_step step p early is)
  is_behind (suc (suc h)) le = absurd (omega arith)
