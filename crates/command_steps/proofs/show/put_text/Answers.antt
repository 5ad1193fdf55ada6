use Rattle.command_steps.proofs.FlushLaws.{put_failed, writes_flushed}
use Rattle.command_steps.proofs.show.put_text.Goals as goal

pub returns-in_err-put_all : goal.returns-in_err-put_all
returns-in_err-put_all g c = put_failed c.args.text.now c.from_residual.result c.from_residual.ensures.0
    c.in_err-put_all.ensures

pub returns : goal.returns
returns g c = writes_flushed c.in_ok-put_all.ensures _ c.flush.result c.flush.ensures
