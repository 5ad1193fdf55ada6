-- All that is needed before the place is held.
use Rattle.std.proofs.Common.{◌≡◌, ◌-◌, ◌≤◌, length, drop}
use Rattle.circulant_plan.specs.Table.{needs_of}
use Rattle.symple_face.specs.State.{first_missing}
use Rattle.machine_parts.proofs.missing.first_missing.Given as goal

abbrev pub invariant-needs : goal.invariant-needs
invariant-needs l =
    (l.place ≤ length (needs_of l.ring l.m l.spot))
    × (first_missing (needs_of l.ring l.m l.spot) l.held.letters
    ≡ first_missing (drop l.place (needs_of l.ring l.m l.spot)) l.held.letters)

abbrev pub decreases-needs : goal.decreases-needs
decreases-needs l = length (needs_of l.ring l.m l.spot) - l.place
