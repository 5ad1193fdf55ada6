-- The spots that a call may be asked about.
use Rattle.std.specs.Prelude.{◌≤◌, ◌<◌}
use Rattle.circulant_plan.specs.declared.spot.Ring.{Ring}
use Rattle.circulant_plan.specs.declared.spot.Spot.{Spot}
use Rattle.circulant_plan.specs.declared.spot.Spot.TheVariants.{Tell, Judge, Begin, Scan, Close, Over}

-- the round is below the greatest number of its type, the step below the number of machines, the half 0 or 1
abbrev pub IsSpotOf : Ring → Spot → Type 0
IsSpotOf ring Tell = Unit {0}
IsSpotOf ring (Judge r) = r < 4294967295
IsSpotOf ring (Begin r) = r < 4294967295
IsSpotOf ring (Scan r s h) = (r < 4294967295) × (s < ring.machines) × (h ≤ 1)
IsSpotOf ring (Close r dense) = r < 4294967295
IsSpotOf ring Over = Unit {0}
