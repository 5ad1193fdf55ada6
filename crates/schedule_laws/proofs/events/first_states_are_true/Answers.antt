use Rattle.schedule_laws.proofs.FirstStates.{first_is_true, restarted_is_true}
use Rattle.schedule_laws.proofs.events.first_states_are_true.Goals as goal

pub returns-clause-first : goal.returns-clause-first
returns-clause-first c = first_is_true

pub returns-clause-restarted : goal.returns-clause-restarted
returns-clause-restarted c = restarted_is_true
