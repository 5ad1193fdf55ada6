use Rattle.schedule_laws.proofs.Runs.{fresh_is_a_run, resumed_is_a_run}
use Rattle.schedule_laws.proofs.events.runs_of_parts.Goals as goal

pub returns-clause-fresh : goal.returns-clause-fresh
returns-clause-fresh c = fresh_is_a_run

pub returns-clause-resumed : goal.returns-clause-resumed
returns-clause-resumed c = resumed_is_a_run
