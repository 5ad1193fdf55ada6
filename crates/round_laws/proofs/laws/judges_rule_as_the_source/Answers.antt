use Rattle.round_laws.proofs.Judging.{counts_ideal, judges_as_source}
use Rattle.round_laws.proofs.laws.judges_rule_as_the_source.Goals as goal

pub returns-clause-counts : goal.returns-clause-counts
returns-clause-counts c = counts_ideal

pub returns-clause-ruling : goal.returns-clause-ruling
returns-clause-ruling c = judges_as_source
