use Rattle.schedule_laws.proofs.Rests.{every_rest_is_printed}
use Rattle.schedule_laws.proofs.Starts.{every_start_is_told}
use Rattle.schedule_laws.proofs.laws.starts_are_told.Goals as goal

pub returns-clause-told : goal.returns-clause-told
returns-clause-told c = every_start_is_told

pub returns-clause-rest : goal.returns-clause-rest
returns-clause-rest c = every_rest_is_printed
