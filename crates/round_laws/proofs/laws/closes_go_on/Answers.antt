use Rattle.round_laws.proofs.FoldCloses.{closes_and_goes_on, closes_to_judge, dense_reads_ideal, sparse_reads_ideal}
use Rattle.round_laws.proofs.laws.closes_go_on.Goals as goal

pub returns-clause-begin : goal.returns-clause-begin
returns-clause-begin c = closes_and_goes_on

pub returns-clause-judge : goal.returns-clause-judge
returns-clause-judge c = closes_to_judge

pub returns-clause-dense : goal.returns-clause-dense
returns-clause-dense c = dense_reads_ideal

pub returns-clause-sparse : goal.returns-clause-sparse
returns-clause-sparse c = sparse_reads_ideal
