use Rattle.round_laws.proofs.ReadsCounted.{reads_are_counted}
use Rattle.round_laws.proofs.laws.reads_are_counted.Goals as goal

pub returns : goal.returns
returns c = reads_are_counted
