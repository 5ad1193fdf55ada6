use Rattle.std.proofs.Common.{◌≡◌, ◌≤◌, ◌+◌, ◌-◌, ◌*◌, ◌^◌, drop, sum}
use Rattle.chunk_split.specs.Bounds.{costs_of, reach}
use Rattle.chunk_split.proofs.bounds.chunk_from.Given as goal

abbrev pub invariant-loop-v : goal.invariant-loop-v
invariant-loop-v l = record {
  reach : l.v + reach (l.need - l.sum) (drop l.v (costs_of l.machines l.table.vertices l.table.list)) ≡ l.start
      + reach l.need (drop l.start (costs_of l.machines l.table.vertices l.table.list));
  sum : l.sum + sum (drop l.v (costs_of l.machines l.table.vertices l.table.list))
      ≡ sum (drop l.start (costs_of l.machines l.table.vertices l.table.list));
  small : l.sum ≤ l.v * 2 ^ 24;
}
