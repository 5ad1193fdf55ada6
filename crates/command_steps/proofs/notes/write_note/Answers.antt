use Rattle.std.proofs.Common.{List, ℕ, sym, ap, ◌∙◌}
use Rattle.array_text.proofs.WritesLaws.{writes_same}
use Rattle.command_steps.specs.declared.failure.Failure.{Failure}
use Rattle.command_steps.specs.Faults.{fault_of}
use Rattle.command_steps.specs.Notes.{NoLoad, note_text}
use Rattle.command_steps.proofs.notes.write_note.Goals as goal

pub returns-in-Load : goal.returns-in-Load
returns-in-Load g c =
    writes_same (ap (λ (n : List ℕ). note_text (NoLoad n)) c.deref.ensures
    ∙ ap (λ (f : Failure). note_text (fault_of f)) (sym c.in-Load.is)) c.write_unread.ensures

pub returns-in-Program : goal.returns-in-Program
returns-in-Program g c = writes_same (ap (λ (f : Failure). note_text (fault_of f)) (sym c.in-Program.is))
    c.write_refusal.ensures

pub returns-in-GraphLine : goal.returns-in-GraphLine
returns-in-GraphLine g c = writes_same (ap (λ (f : Failure). note_text (fault_of f)) (sym c.in-GraphLine.is))
    c.write_line.ensures

pub returns-in-GraphByte : goal.returns-in-GraphByte
returns-in-GraphByte g c = writes_same (ap (λ (f : Failure). note_text (fault_of f)) (sym c.in-GraphByte.is))
    c.write_byte.ensures

pub returns-in-ScheduleLine : goal.returns-in-ScheduleLine
returns-in-ScheduleLine g c = writes_same (ap (λ (f : Failure). note_text (fault_of f)) (sym c.in-ScheduleLine.is))
    c.write_event_line.ensures

pub returns-in-Event : goal.returns-in-Event
returns-in-Event g c = writes_same (ap (λ (f : Failure). note_text (fault_of f)) (sym c.in-Event.is))
    c.write_event.ensures

pub returns-in-NotTaken : goal.returns-in-NotTaken
returns-in-NotTaken g c = writes_same (ap (λ (f : Failure). note_text (fault_of f)) (sym c.in-NotTaken.is))
    c.write_not_taken.ensures

pub returns-in-NotGone : goal.returns-in-NotGone
returns-in-NotGone g c = writes_same (ap (λ (f : Failure). note_text (fault_of f)) (sym c.in-NotGone.is))
    c.write_not_gone.ensures

pub returns-in-Part : goal.returns-in-Part
returns-in-Part g c = writes_same (ap (λ (f : Failure). note_text (fault_of f)) (sym c.in-Part.is))
    c.write_part.ensures

pub returns-in-Message : goal.returns-in-Message
returns-in-Message g c = writes_same (ap (λ (f : Failure). note_text (fault_of f)) (sym c.in-Message.is))
    c.write_message.ensures

pub returns-in-EndsEarly : goal.returns-in-EndsEarly
returns-in-EndsEarly g c = writes_same (ap (λ (f : Failure). note_text (fault_of f)) (sym c.in-EndsEarly.is))
    c.write_early_end.ensures

pub returns-in-ScheduleHeader : goal.returns-in-ScheduleHeader
returns-in-ScheduleHeader g c = writes_same (ap (λ (f : Failure). note_text (fault_of f)) (sym c.in-ScheduleHeader.is))
    c.put_all-in-ScheduleHeader.ensures

pub returns-in-LongSchedule : goal.returns-in-LongSchedule
returns-in-LongSchedule g c = writes_same (ap (λ (f : Failure). note_text (fault_of f)) (sym c.in-LongSchedule.is))
    c.put_all-in-LongSchedule.ensures

pub returns-in-Input : goal.returns-in-Input
returns-in-Input g c = writes_same (ap (λ (f : Failure). note_text (fault_of f)) (sym c.in-Input.is))
    c.put_all-in-Input.ensures

pub returns-in-Write : goal.returns-in-Write
returns-in-Write g c = writes_same (ap (λ (f : Failure). note_text (fault_of f)) (sym c.in-Write.is))
    c.put_all-in-Write.ensures

pub returns-in-Memory : goal.returns-in-Memory
returns-in-Memory g c = writes_same (ap (λ (f : Failure). note_text (fault_of f)) (sym c.in-Memory.is))
    c.put_all-in-Memory.ensures
