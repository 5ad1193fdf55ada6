use Rattle.std.proofs.Common.{codes, decimal}
use Rattle.array_text.proofs.WritesLaws.{writes_failed, writes_same, writes_then}
use Rattle.command_steps.proofs.LineLaws.{three_more}
use Rattle.vert_base.specs.NameTexts.{name_text}
use Rattle.command_steps.proofs.notes.write_waits.Goals as goal

pub returns-in_err-write_number : goal.returns-in_err-write_number
returns-in_err-write_number g c =
    writes_same
    (three_more (codes "machine ") (decimal c.args.machine) (codes " waits for ") (name_text c.args.name.now))
    (writes_failed (name_text c.args.name.now) c.from_residual.result c.from_residual.ensures.0
    c.in_err-write_number.ensures)

pub returns : goal.returns
returns g c =
    writes_same
    (three_more (codes "machine ") (decimal c.args.machine) (codes " waits for ") (name_text c.args.name.now))
    (writes_then _ c.in_ok-write_number.ensures c.write_name.ensures)
