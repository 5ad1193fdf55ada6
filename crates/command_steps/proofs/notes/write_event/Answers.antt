use Rattle.std.proofs.Common.{◌++◌, codes, decimal}
use Rattle.array_text.proofs.WritesLaws.{writes_failed, writes_same, writes_then}
use Rattle.command_steps.specs.Notes.{why_text}
use Rattle.command_steps.proofs.LineLaws.{four_more, three_more}
use Rattle.command_steps.proofs.notes.write_event.Goals as goal

pub returns-in_err-write_number : goal.returns-in_err-write_number
returns-in_err-write_number g c =
    writes_same
    (three_more (codes "symple: schedule: line ") (decimal c.args.line) (codes ": ")
    (why_text c.args.why.now ++ codes "\n"))
    (writes_failed (why_text c.args.why.now ++ codes "\n") c.from_residual.result c.from_residual.ensures.0
    c.in_err-write_number.ensures)

pub returns-in_err-write_why : goal.returns-in_err-write_why
returns-in_err-write_why g c =
    writes_same
    (four_more (codes "symple: schedule: line ") (decimal c.args.line) (codes ": ") (why_text c.args.why.now)
    (codes "\n"))
    (writes_failed (codes "\n") c.from_residual-in_err-write_why.result c.from_residual-in_err-write_why.ensures.0
    (writes_then _ c.in_ok-write_number.ensures c.in_err-write_why.ensures))

pub returns : goal.returns
returns g c =
    writes_same
    (four_more (codes "symple: schedule: line ") (decimal c.args.line) (codes ": ") (why_text c.args.why.now)
    (codes "\n"))
    (writes_then _ (writes_then _ c.in_ok-write_number.ensures c.in_ok-write_why.ensures) c.put_all.ensures)
