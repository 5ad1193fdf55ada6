use Rattle.command_steps.proofs.FlushLaws.{put_failed, writes_flushed}
use Rattle.symple_run.proofs.shown.put_shown.Goals as goal

pub returns-in_err-write_shown : goal.returns-in_err-write_shown
returns-in_err-write_shown g c = put_failed _ c.from_residual.result c.from_residual.ensures.0
    c.in_err-write_shown.ensures

pub returns : goal.returns
returns g c = writes_flushed c.in_ok-write_shown.ensures _ c.flush.result c.flush.ensures
