use Rattle.skeleton_laws.proofs.RunCounts.{complete_runs_are_counted}
use Rattle.skeleton_laws.proofs.WorkedRows.{worked_runs}
use Rattle.skeleton_laws.proofs.laws.event_counts.Goals as goal

pub returns-clause-counts : goal.returns-clause-counts
returns-clause-counts c = complete_runs_are_counted

pub returns-clause-worked : goal.returns-clause-worked
returns-clause-worked c = worked_runs
