use Rattle.std.proofs.Common.{sym, ap}
use Rattle.array_text.proofs.WritesLaws.{writes_same}
use Rattle.command_steps.specs.Outputs.{freedom_text}
use Rattle.command_steps.proofs.freedom.write_freedom.Goals as goal

pub returns-in-NoLoop : goal.returns-in-NoLoop
returns-in-NoLoop g c = writes_same (ap (freedom_text c.args.program.now) (sym c.in-NoLoop.is)) c.put_all.ensures

pub returns-in-Reductions : goal.returns-in-Reductions
returns-in-Reductions g c = writes_same (ap (freedom_text c.args.program.now) (sym c.in-Reductions.is))
    c.put_all-in-Reductions.ensures

pub returns-in-FoundOne : goal.returns-in-FoundOne
returns-in-FoundOne g c = writes_same (ap (freedom_text c.args.program.now) (sym c.in-FoundOne.is))
    c.put_all-in-FoundOne.ensures

pub returns-in-ReachACount : goal.returns-in-ReachACount
returns-in-ReachACount g c = writes_same (ap (freedom_text c.args.program.now) (sym c.in-ReachACount.is))
    c.put_all-in-ReachACount.ensures

pub returns-in-FirstSlot : goal.returns-in-FirstSlot
returns-in-FirstSlot g c = writes_same (ap (freedom_text c.args.program.now) (sym c.in-FirstSlot.is))
    c.write_first_slot.ensures

pub returns-in-OtherLoop : goal.returns-in-OtherLoop
returns-in-OtherLoop g c = writes_same (ap (freedom_text c.args.program.now) (sym c.in-OtherLoop.is))
    c.put_all-in-OtherLoop.ensures
