use Rattle.round_laws.proofs.FoldBegins.{begins_dense, sends_pushes}
use Rattle.round_laws.proofs.FoldBeginsSparse.{begins_sparse}
use Rattle.round_laws.proofs.laws.begins_go_on.Goals as goal

pub returns-clause-dense : goal.returns-clause-dense
returns-clause-dense c = begins_dense

pub returns-clause-sparse : goal.returns-clause-sparse
returns-clause-sparse c = begins_sparse

pub returns-clause-pushes : goal.returns-clause-pushes
returns-clause-pushes c = sends_pushes
