use Rattle.round_laws.proofs.Planned.{planned_can_be_taken}
use Rattle.round_laws.proofs.parts.planned_can_take.Goals as goal

pub returns : goal.returns
returns c = planned_can_be_taken
