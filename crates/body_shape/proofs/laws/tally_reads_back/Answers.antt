use Rattle.body_shape.proofs.TallyLaws.{tally_back, tally_fits, tally_spelled, tally_suits}
use Rattle.body_shape.proofs.laws.tally_reads_back.Goals as goal

pub returns-clause-back : goal.returns-clause-back
returns-clause-back c = tally_back

pub returns-clause-fits : goal.returns-clause-fits
returns-clause-fits c = tally_fits

pub returns-clause-suits : goal.returns-clause-suits
returns-clause-suits c = tally_suits

pub returns-clause-spelled : goal.returns-clause-spelled
returns-clause-spelled c = tally_spelled
