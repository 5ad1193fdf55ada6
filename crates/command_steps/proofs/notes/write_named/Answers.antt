use Rattle.std.proofs.Common.{◌++◌, append_assoc}
use Rattle.array_text.proofs.WritesLaws.{writes_failed, writes_same, writes_then}
use Rattle.vert_base.specs.NameTexts.{name_text}
use Rattle.command_steps.proofs.notes.write_named.Goals as goal

pub returns-in_err-put_all : goal.returns-in_err-put_all
returns-in_err-put_all g c = writes_failed (name_text c.args.name.now ++ c.args.behind.now) c.from_residual.result
    c.from_residual.ensures.0 c.in_err-put_all.ensures

pub returns-in_err-write_name : goal.returns-in_err-write_name
returns-in_err-write_name g c =
    writes_same (append_assoc c.args.front.now (name_text c.args.name.now) c.args.behind.now)
    (writes_failed c.args.behind.now c.from_residual-in_err-write_name.result
    c.from_residual-in_err-write_name.ensures.0
    (writes_then _ c.in_ok-put_all.ensures c.in_err-write_name.ensures))

pub returns : goal.returns
returns g c =
    writes_same (append_assoc c.args.front.now (name_text c.args.name.now) c.args.behind.now)
    (writes_then _ (writes_then _ c.in_ok-put_all.ensures c.in_ok-write_name.ensures) c.put_all-2.ensures)
