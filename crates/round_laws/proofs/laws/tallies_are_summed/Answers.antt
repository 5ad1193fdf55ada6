use Rattle.round_laws.proofs.Tallies.{tallies_summed}
use Rattle.round_laws.proofs.laws.tallies_are_summed.Goals as goal

pub returns : goal.returns
returns c = tallies_summed
