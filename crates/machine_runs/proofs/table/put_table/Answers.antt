use Rattle.command_steps.proofs.FlushLaws.{put_failed, writes_flushed}
use Rattle.machine_runs.proofs.table.put_table.Goals as goal

pub returns-in_err-write_table : goal.returns-in_err-write_table
returns-in_err-write_table g c = put_failed _ c.from_residual.result c.from_residual.ensures.0
    c.in_err-write_table.ensures

pub returns : goal.returns
returns g c = writes_flushed c.in_ok-write_table.ensures _ c.flush.result c.flush.ensures
