use Rattle.round_laws.proofs.SparseClose.{closes_sparse}
use Rattle.round_laws.proofs.laws.sparse_closes.Goals as goal

pub returns : goal.returns
returns c = closes_sparse
