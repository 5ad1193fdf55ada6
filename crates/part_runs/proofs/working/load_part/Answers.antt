-- The file was not loaded, or its bytes decide.
use Rattle.std.proofs.lemmas.Result.{err_from_is_err_and}
use Rattle.part_runs.specs.PartWalks.{NotLoaded}
use Rattle.part_runs.proofs.ServeLaws.{judged_here}
use Rattle.part_runs.proofs.working.load_part.Goals as goal

pub returns-in_err-bytes-clause-part : goal.returns-in_err-bytes-clause-part
returns-in_err-bytes-clause-part g c =
    let p = err_from_is_err_and c.from_residual.result c.from_residual.ensures.1 in
    rw (p.1, p.2) (NotLoaded c.in_err-bytes.ensures.bytes)

pub returns-clause-part : goal.returns-clause-part
returns-clause-part g c =
    judged_here _ _ c.args.name.now c.in_ok-bytes.bytes.items c.in_ok-bytes.ensures.bytes c.deref.result.now
    c.deref.ensures.value c.judged.result c.judged.ensures
