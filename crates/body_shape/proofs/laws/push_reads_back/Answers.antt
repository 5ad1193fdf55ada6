use Rattle.body_shape.proofs.ReadLaws.{push_in_place}
use Rattle.body_shape.proofs.PushLaws.{push_back, push_fits, push_spelled, push_suits}
use Rattle.body_shape.proofs.laws.push_reads_back.Goals as goal

pub returns-clause-back : goal.returns-clause-back
returns-clause-back c = push_back

pub returns-clause-fits : goal.returns-clause-fits
returns-clause-fits c = push_fits

pub returns-clause-suits : goal.returns-clause-suits
returns-clause-suits c = push_suits

pub returns-clause-spelled : goal.returns-clause-spelled
returns-clause-spelled c = push_spelled

pub returns-clause-placed : goal.returns-clause-placed
returns-clause-placed c = push_in_place
