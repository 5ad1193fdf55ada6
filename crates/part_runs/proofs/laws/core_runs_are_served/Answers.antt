use Rattle.std.proofs.Common.{sym, subst}
use Rattle.symple_face.specs.CoreWork.{core_work}
use Rattle.worker_laws.proofs.ChunkTexts.{tables_are_of_chunks}
use Rattle.worker_laws.proofs.Whole.{complete_runs}
use Rattle.part_runs.specs.CoreServing.{CompleteRunsAreServed}
use Rattle.part_runs.proofs.CoreServing.{runs_served}
use Rattle.part_runs.proofs.laws.core_runs_are_served.Goals as goal

pub returns : goal.returns
returns g c = record {
  served = λ is. subst CompleteRunsAreServed (sym (g.met.S.Site.core is)) (runs_served core_work complete_runs);
  tables = tables_are_of_chunks;
}
