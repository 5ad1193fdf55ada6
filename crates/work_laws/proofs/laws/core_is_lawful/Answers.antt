use Rattle.work_laws.proofs.Whole.{core_lawful, core_restarts}
use Rattle.work_laws.proofs.laws.core_is_lawful.Goals as goal

pub returns-clause-lawful : goal.returns-clause-lawful
returns-clause-lawful c = core_lawful

pub returns-clause-restarts : goal.returns-clause-restarts
returns-clause-restarts c = core_restarts
