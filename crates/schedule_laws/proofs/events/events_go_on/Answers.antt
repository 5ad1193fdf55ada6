use Rattle.schedule_laws.proofs.Goes.{goes_on}
use Rattle.schedule_laws.proofs.Takes.{takes_on}
use Rattle.schedule_laws.proofs.events.events_go_on.Goals as goal

pub returns-clause-go : goal.returns-clause-go
returns-clause-go c = goes_on

pub returns-clause-take : goal.returns-clause-take
returns-clause-take c = takes_on
