use Rattle.std.proofs.Common.{◌≡◌, ◌≤◌, ◌+◌, ◌*◌, ◌^◌, drop, sum}
use Rattle.chunk_split.specs.Bounds.{costs_of}
use Rattle.chunk_split.proofs.bounds.total.Given as goal

abbrev pub invariant-loop-v : goal.invariant-loop-v
invariant-loop-v l = record {
  sum : l.sum + sum (drop l.v (costs_of l.machines l.table.vertices l.table.list))
      ≡ sum (costs_of l.machines l.table.vertices l.table.list);
  small : l.sum ≤ l.v * 2 ^ 24;
}
