use Rattle.std.proofs.Common.{◌≡◌, ◌≤◌, ◌-◌, ◌*◌, ◌^◌, ◌++◌, drop, sum, length}
use Rattle.chunk_split.specs.Bounds.{costs_of, ends_from}
use Rattle.chunk_split.proofs.bounds.cuts_of.Given as goal

abbrev pub invariant-loop-i : goal.invariant-loop-i
invariant-loop-i g l = record {
  ends : l.list.items ++ ends_from (l.p - l.i) l.start (drop l.start (costs_of l.p l.table.vertices l.table.list))
      ≡ ends_from l.p 0 (costs_of l.p l.table.vertices l.table.list);
  within : l.start ≤ l.table.vertices;
  rest : l.rest ≡ sum (drop l.start (costs_of l.p l.table.vertices l.table.list));
  count : length l.list.items ≡ l.i;
  small : l.rest ≤ 2097152 * 2 ^ 24;
}
