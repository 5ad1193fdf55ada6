use Rattle.body_shape.proofs.UpdateLaws.{update_back, update_fits, update_spelled, update_suits}
use Rattle.body_shape.proofs.laws.update_reads_back.Goals as goal

pub returns-clause-back : goal.returns-clause-back
returns-clause-back c = update_back

pub returns-clause-fits : goal.returns-clause-fits
returns-clause-fits c = update_fits

pub returns-clause-suits : goal.returns-clause-suits
returns-clause-suits c = update_suits

pub returns-clause-spelled : goal.returns-clause-spelled
returns-clause-spelled c = update_spelled
