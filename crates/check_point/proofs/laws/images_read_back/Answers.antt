use Rattle.check_point.proofs.BackLaws.{image_reads_back}
use Rattle.check_point.proofs.ReadyLaws.{start_is_ready}
use Rattle.check_point.proofs.SpelledLaws.{start_is_spelled}
use Rattle.check_point.proofs.laws.images_read_back.Goals as goal

pub returns-clause-back : goal.returns-clause-back
returns-clause-back c = image_reads_back

pub returns-clause-ready : goal.returns-clause-ready
returns-clause-ready c = start_is_ready

pub returns-clause-spelled : goal.returns-clause-spelled
returns-clause-spelled c = start_is_spelled
