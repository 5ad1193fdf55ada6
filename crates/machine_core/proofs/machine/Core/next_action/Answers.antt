use Rattle.std.proofs.Common.{sym, subst}
use Rattle.circulant_plan.specs.declared.spot.Ring.{Ring}
use Rattle.circulant_plan.specs.Spots.{IsSpotOf}
use Rattle.machine_core.specs.CoreState.{core_state}
use Rattle.machine_core.proofs.SoundLaws.{spot_of}
use Rattle.machine_core.proofs.machine.Core.next_action.Goals as goal

pub first_missing-requires-clause-spot : goal.first_missing-requires-clause-spot
first_missing-requires-clause-spot c =
    let s = core_state c.args.self.now in
    subst (λ (r : Ring). IsSpotOf r s.at.spot) (sym c.ring.ensures) (spot_of s c.args.self.now.sound)
