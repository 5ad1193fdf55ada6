use Rattle.std.proofs.Common.{ap}
use Rattle.array_text.proofs.WritesLaws.{writes_same}
use Rattle.command_steps.specs.Outputs.{freedom_text}
use Rattle.command_steps.proofs.FlushLaws.{put_failed, writes_flushed}
use Rattle.command_steps.proofs.freedom.put_freedom.Goals as goal

pub returns-in_err-write_freedom : goal.returns-in_err-write_freedom
returns-in_err-write_freedom g c =
    put_failed _ c.from_residual.result c.from_residual.ensures.0
    (writes_same (ap (freedom_text c.args.split.now.program.program) c.free.ensures) c.in_err-write_freedom.ensures)

pub returns : goal.returns
returns g c = writes_flushed (writes_same (ap (freedom_text c.args.split.now.program.program) c.free.ensures)
    c.in_ok-write_freedom.ensures) _ c.flush.result c.flush.ensures
