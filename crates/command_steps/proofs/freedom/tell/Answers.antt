use Rattle.std.proofs.lemmas.Result.{err_from_is_err_and}
use Rattle.command_steps.proofs.freedom.tell.Goals as goal

pub returns-in_err-put_freedom : goal.returns-in_err-put_freedom
returns-in_err-put_freedom g c = let p = err_from_is_err_and c.from_residual.result c.from_residual.ensures.1 in
    rw (p.1, p.2) c.in_err-put_freedom.ensures
