-- The values so far.
use Rattle.std.proofs.Common.{◌≡◌, None, length, replicate}
use Rattle.machine_parts.proofs.environment.no_values.Given as goal

abbrev pub invariant-values : goal.invariant-values
invariant-values l = record {
  items : l.values.items ≡ replicate l.counter None;
  len : length l.values.items ≡ l.counter;
}
