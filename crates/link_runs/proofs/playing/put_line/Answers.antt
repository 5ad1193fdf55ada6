use Rattle.std.proofs.Common.{[], ◌∷◌}
use Rattle.array_text.proofs.WritesLaws.{writes_failed, writes_then}
use Rattle.link_runs.proofs.playing.put_line.Goals as goal

pub returns-in_err-put_named : goal.returns-in_err-put_named
returns-in_err-put_named g c = writes_failed (10 ∷ []) c.from_residual.result c.from_residual.ensures.0
    c.in_err-put_named.ensures

pub returns : goal.returns
returns g c = writes_then _ c.in_ok-put_named.ensures c.put_all.ensures
