use Rattle.round_laws.proofs.DenseClose.{closes_dense}
use Rattle.round_laws.proofs.laws.dense_closes.Goals as goal

pub returns : goal.returns
returns c = closes_dense
