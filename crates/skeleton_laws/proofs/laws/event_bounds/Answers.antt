use Rattle.skeleton_laws.proofs.BoundLaws.{first_runs_are_bounded, resumed_runs_are_bounded}
use Rattle.skeleton_laws.proofs.OrderLaws.{events_come_nearer, runs_are_bounded}
use Rattle.skeleton_laws.proofs.laws.event_bounds.Goals as goal

pub returns-clause-nearer : goal.returns-clause-nearer
returns-clause-nearer c = events_come_nearer

pub returns-clause-bounded : goal.returns-clause-bounded
returns-clause-bounded c = runs_are_bounded

pub returns-clause-first : goal.returns-clause-first
returns-clause-first c = first_runs_are_bounded

pub returns-clause-resumed : goal.returns-clause-resumed
returns-clause-resumed c = resumed_runs_are_bounded
