use Rattle.std.proofs.Common.{◌++◌, ◌∙◌, List, ℕ, ap, append-nil, codes, decimal, sym}
use Rattle.array_text.proofs.WritesLaws.{writes_same}
use Rattle.command_steps.specs.Notes.{why_text}
use Rattle.command_steps.proofs.notes.write_why.Goals as goal

pub returns-in-NoMachine : goal.returns-in-NoMachine
returns-in-NoMachine g c =
    writes_same (ap (λ (t : List ℕ). codes "no machine " ++ t) (append-nil (decimal c.in-NoMachine.machine))
    ∙ ap why_text (sym c.in-NoMachine.is)) c.write_number.ensures

pub returns-in-Waits : goal.returns-in-Waits
returns-in-Waits g c = writes_same (ap why_text (sym c.in-Waits.is)) c.write_waits.ensures

pub returns-in-MachineOver : goal.returns-in-MachineOver
returns-in-MachineOver g c = writes_same (ap why_text (sym c.in-MachineOver.is)) c.write_number-in-MachineOver.ensures

pub returns-in-NotUnderWay : goal.returns-in-NotUnderWay
returns-in-NotUnderWay g c = writes_same (ap why_text (sym c.in-NotUnderWay.is)) c.write_named.ensures

pub returns-in-RunOver : goal.returns-in-RunOver
returns-in-RunOver g c = writes_same (ap why_text (sym c.in-RunOver.is)) c.put_all.ensures

pub returns-in-NotAgain : goal.returns-in-NotAgain
returns-in-NotAgain g c = writes_same (ap why_text (sym c.in-NotAgain.is)) c.write_named-in-NotAgain.ensures

pub returns-in-NoAck : goal.returns-in-NoAck
returns-in-NoAck g c = writes_same (ap why_text (sym c.in-NoAck.is)) c.write_named-in-NoAck.ensures
