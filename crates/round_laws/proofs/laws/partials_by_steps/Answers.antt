use Rattle.round_laws.proofs.Partials.{fills_sent}
use Rattle.round_laws.proofs.laws.partials_by_steps.Goals as goal

pub returns : goal.returns
returns c = fills_sent
