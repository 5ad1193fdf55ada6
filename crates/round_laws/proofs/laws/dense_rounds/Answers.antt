use Rattle.round_laws.proofs.DenseRound.{round_by_machines}
use Rattle.round_laws.proofs.laws.dense_rounds.Goals as goal

pub returns : goal.returns
returns c = round_by_machines
