-- The answer of reading is that of judging.
use Rattle.part_runs.proofs.ServeLaws.{judged_by}
use Rattle.part_runs.proofs.working.judged.Goals as goal

pub returns-in-Ok : goal.returns-in-Ok
returns-in-Ok c = judged_by c.args.bytes.now c.in-Ok.part c.in-Ok.ensures.answer c.tell_literals.ensures

pub returns-in-Err : goal.returns-in-Err
returns-in-Err c = record { why = c.in-Err.fault; reads = c.in-Err.ensures.answer; fault_is = c.unread.ensures }
