-- The words of the totals so far.
use Rattle.std.proofs.Common.{◌≡◌, length, take}
use Rattle.machine_parts.specs.Counting.{values_added}
use Rattle.machine_parts.proofs.totals.with_values.Given as goal

abbrev pub invariant-loop-i : goal.invariant-loop-i
invariant-loop-i l = record {
  words : l.words.items ≡ values_added l.env (take l.i l.totals) (take l.i l.held);
  len : length l.words.items ≡ l.i;
}
