use Rattle.delivery_log.proofs.PairLaws.{has_one_fault, has_one_text, has_text, reads_back, record_is_read, stands_for_one}
use Rattle.delivery_log.proofs.laws.schedules_read_back.Goals as goal

pub returns-clause-pair : goal.returns-clause-pair
returns-clause-pair c = stands_for_one

pub returns-clause-text : goal.returns-clause-text
returns-clause-text c = has_text

pub returns-clause-alone : goal.returns-clause-alone
returns-clause-alone c = has_one_text

pub returns-clause-read : goal.returns-clause-read
returns-clause-read c = reads_back

pub returns-clause-recorded : goal.returns-clause-recorded
returns-clause-recorded c = record_is_read

pub returns-clause-fault : goal.returns-clause-fault
returns-clause-fault c = has_one_fault
