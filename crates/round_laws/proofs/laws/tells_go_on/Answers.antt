use Rattle.round_laws.proofs.FoldTells.{tells_and_goes_on}
use Rattle.round_laws.proofs.laws.tells_go_on.Goals as goal

pub returns : goal.returns
returns c = tells_and_goes_on
