-- The zeros so far.
use Rattle.std.proofs.Common.{◌≡◌, replicate}
use Rattle.machine_core.proofs.making.zeros.Given as goal

abbrev pub invariant-zeros : goal.invariant-zeros
invariant-zeros l = l.list.items ≡ replicate l.counter 0
