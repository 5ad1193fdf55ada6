use Rattle.std.proofs.Common.{sym, subst}
use Rattle.worker_laws.specs.Alone.{CompleteRunsAreServed}
use Rattle.worker_laws.proofs.Whole.{complete_runs}
use Rattle.worker_laws.proofs.complete_runs_are_served.Goals as goal

pub returns : goal.returns
returns g c is = subst CompleteRunsAreServed (sym (g.met.S.Site.core is)) complete_runs
