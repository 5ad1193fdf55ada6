use Rattle.command_steps.proofs.FlushLaws.{put_failed, writes_flushed}
use Rattle.command_steps.proofs.plan.put_plan.Goals as goal

pub returns-in_err-write_plan : goal.returns-in_err-write_plan
returns-in_err-write_plan g c = put_failed _ c.from_residual.result c.from_residual.ensures.0
    c.in_err-write_plan.ensures

pub returns : goal.returns
returns g c = writes_flushed c.in_ok-write_plan.ensures _ c.flush.result c.flush.ensures
