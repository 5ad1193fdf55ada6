use Rattle.vert_base.specs.NameTexts.{name_text}
use Rattle.array_text.proofs.WritesLaws.{writes_failed, writes_then}
use Rattle.link_runs.proofs.playing.put_named.Goals as goal

pub returns-in_err-put_all : goal.returns-in_err-put_all
returns-in_err-put_all g c = writes_failed (name_text c.args.name.now) c.from_residual.result c.from_residual.ensures.0
    c.in_err-put_all.ensures

pub returns : goal.returns
returns g c = writes_then _ c.in_ok-put_all.ensures c.write_name.ensures
