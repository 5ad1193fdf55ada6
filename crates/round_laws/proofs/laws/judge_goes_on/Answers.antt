use Rattle.round_laws.proofs.FoldJudge.{judges_and_goes_on}
use Rattle.round_laws.proofs.laws.judge_goes_on.Goals as goal

pub returns : goal.returns
returns c = judges_and_goes_on
