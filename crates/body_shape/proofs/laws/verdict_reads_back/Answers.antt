use Rattle.body_shape.proofs.VerdictLaws.{verdict_back, verdict_fits, verdict_spelled, verdict_suits}
use Rattle.body_shape.proofs.laws.verdict_reads_back.Goals as goal

pub returns-clause-back : goal.returns-clause-back
returns-clause-back c = verdict_back

pub returns-clause-fits : goal.returns-clause-fits
returns-clause-fits c = verdict_fits

pub returns-clause-suits : goal.returns-clause-suits
returns-clause-suits c = verdict_suits

pub returns-clause-spelled : goal.returns-clause-spelled
returns-clause-spelled c = verdict_spelled
