use Rattle.schedule_laws.proofs.ToldRounds.{every_round_is_told, every_table_is_told}
use Rattle.schedule_laws.proofs.Whole.{every_log, every_schedule}
use Rattle.schedule_laws.proofs.laws.every_schedule.Goals as goal

pub returns-clause-whole : goal.returns-clause-whole
returns-clause-whole c = every_schedule

pub returns-clause-log : goal.returns-clause-log
returns-clause-log c = every_log

pub returns-clause-rounds : goal.returns-clause-rounds
returns-clause-rounds c = every_round_is_told

pub returns-clause-table : goal.returns-clause-table
returns-clause-table c = every_table_is_told
