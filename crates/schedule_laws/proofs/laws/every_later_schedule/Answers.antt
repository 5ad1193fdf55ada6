use Rattle.schedule_laws.proofs.Whole.{every_later_log, every_later_schedule}
use Rattle.schedule_laws.proofs.laws.every_later_schedule.Goals as goal

pub returns-clause-whole : goal.returns-clause-whole
returns-clause-whole c = every_later_schedule

pub returns-clause-log : goal.returns-clause-log
returns-clause-log c = every_later_log
