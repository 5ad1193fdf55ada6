use Rattle.std.proofs.Common.{◌≡◌, ◌+◌, drop, length, slice_get}
use Rattle.cluster_run.specs.Ready.{set_from}
use Rattle.cluster_run.proofs.looks.nth_set.Given as goal

abbrev pub invariant-loop-flag : goal.invariant-loop-flag
invariant-loop-flag l = record {
  at : l.machine ≡ l.flag-index;
  rest : slice_get (set_from l.machine (drop l.flag-index l.ready)) l.left ≡ slice_get (set_from 0 l.ready) l.k;
  count : l.left + length (set_from 0 l.ready)
      ≡ l.k + length (set_from l.machine (drop l.flag-index l.ready));
}
