use Rattle.round_laws.proofs.Seen.{loop_seen, seen_environment}
use Rattle.round_laws.proofs.laws.sights_agree.Goals as goal

pub returns-clause-environments : goal.returns-clause-environments
returns-clause-environments c = seen_environment

pub returns-clause-loops : goal.returns-clause-loops
returns-clause-loops c = loop_seen
