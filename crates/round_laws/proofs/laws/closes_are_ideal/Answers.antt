use Rattle.round_laws.proofs.IdealClose.{dense_rows_ideal}
use Rattle.round_laws.proofs.IdealSparse.{sparse_rows_ideal}
use Rattle.round_laws.proofs.laws.closes_are_ideal.Goals as goal

pub returns-clause-dense : goal.returns-clause-dense
returns-clause-dense c = dense_rows_ideal

pub returns-clause-sparse : goal.returns-clause-sparse
returns-clause-sparse c = sparse_rows_ideal
