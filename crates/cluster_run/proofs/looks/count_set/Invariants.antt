use Rattle.std.proofs.Common.{◌≡◌, ◌≤◌, ◌+◌, drop, length}
use Rattle.cluster_run.specs.Ready.{set_from}
use Rattle.cluster_run.proofs.looks.count_set.Given as goal

abbrev pub invariant-loop-flag : goal.invariant-loop-flag
invariant-loop-flag l = record {
  few : l.count ≤ l.flag-index;
  rest : l.count + length (set_from l.flag-index (drop l.flag-index l.ready)) ≡ length (set_from 0 l.ready);
}
