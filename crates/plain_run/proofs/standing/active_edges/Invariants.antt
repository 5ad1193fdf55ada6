use Rattle.std.proofs.Common.{◌≡◌}
use Rattle.plain_run.proofs.ActiveLaws.{active_sum}
use Rattle.plain_run.proofs.standing.active_edges.Given as goal

abbrev pub invariant-loop-v : goal.invariant-loop-v
invariant-loop-v l = l.edges ≡ active_sum l.graph l.rows l.v
