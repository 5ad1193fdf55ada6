use Rattle.std.proofs.lemmas.Result.{err_from_is_err_and}
use Rattle.command_steps.proofs.read.load_program.Goals as goal

pub returns-in_err-_text-clause-program : goal.returns-in_err-_text-clause-program
returns-in_err-_text-clause-program g c =
    let p = err_from_is_err_and c.from_residual.result c.from_residual.ensures.1 in
    rw (p.1, p.2) c.in_err-_text.ensures.program

pub returns-clause-program : goal.returns-clause-program
returns-clause-program g c = c.in_ok-_text.ensures.program.0
