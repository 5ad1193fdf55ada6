use Rattle.symple_run.proofs.ContinuedLaws.{every_stop_goes_on}
use Rattle.symple_run.proofs.resumes.stopped_runs_go_on.Goals as goal

pub returns : goal.returns
returns c = every_stop_goes_on
