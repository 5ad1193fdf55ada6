use Rattle.round_laws.proofs.Lets.{lets_by_machines}
use Rattle.round_laws.proofs.laws.lets_at_the_end.Goals as goal

pub returns : goal.returns
returns c = λ p d s env h unmarked. lets_by_machines s d env p h unmarked
