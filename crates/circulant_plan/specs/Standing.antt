-- Where a machine stands in its list of actions, with the round of its spot also at the end.
use Rattle.std.specs.Prelude.{ℕ, ◌+◌, ◌*◌}
use Rattle.vert_base.specs.declared.value.Ruling.{Ruling}
use Rattle.vert_base.specs.declared.value.Ruling.TheVariants.{Stop, Dense, Sparse}
use Rattle.circulant_plan.specs.declared.spot.Ring.{Ring}
use Rattle.circulant_plan.specs.declared.spot.Spot.{Spot}
use Rattle.circulant_plan.specs.declared.spot.Spot.TheVariants.{Tell, Judge, Begin, Scan, Close, Over}
use Rattle.circulant_plan.specs.Table.{next_spot}

-- the spot of a machine, and its round: at Over the round that doesn't take place
pub record Standing : Type 0 where
  pub spot : Spot
  pub round : ℕ

-- the round of a spot, given that in which a machine is over
abbrev pub round_of : ℕ → Spot → ℕ
round_of last Tell = 0
round_of last (Judge r) = r
round_of last (Begin r) = r
round_of last (Scan r s h) = r
round_of last (Close r dense) = r
round_of last Over = last

-- the round that stays where an action ends the list: at a judge the one that it rules on
abbrev pub round_ruled : ℕ → Spot → ℕ
round_ruled round Tell = round
round_ruled round (Judge r) = r + 1
round_ruled round (Begin r) = r
round_ruled round (Scan r s h) = r
round_ruled round (Close r dense) = r
round_ruled round Over = round

-- a spot reached from a round
abbrev pub standing_at : ℕ → Spot → Standing
standing_at round spot = record { spot = spot; round = round_of round spot }

-- the first standing of each machine
abbrev pub first_standing : Standing
first_standing = standing_at 0 Tell

-- the standing of machine m after its action
abbrev pub next_standing : Ring → ℕ → Ruling → Standing → Standing
next_standing ring m ruling s = standing_at (round_ruled s.round s.spot) (next_spot ring m s.spot ruling)

-- the standing after the verdict of its round was taken: a stop ends the list
abbrev pub ruled_standing : Ruling → Standing → Standing
ruled_standing Stop s = record { spot = Over; round = s.round }
ruled_standing Dense s = s
ruled_standing Sparse s = s

-- the place of a standing on the one line of all actions: round r has the places from 256 * r on
abbrev pub offset_of : Spot → ℕ
offset_of Tell = 254
offset_of (Judge r) = 255
offset_of (Begin r) = 0
offset_of (Scan r s h) = 1 + 2 * s + h
offset_of (Close r dense) = 254
offset_of Over = 0

abbrev pub place_of : Standing → ℕ
place_of s = 256 * s.round + offset_of s.spot
