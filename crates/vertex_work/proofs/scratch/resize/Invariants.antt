-- How many there are so far.
use Rattle.std.proofs.Common.{◌≡◌, length}
use Rattle.vertex_work.proofs.scratch.resize.Given as goal

abbrev pub invariant-values : goal.invariant-values
invariant-values l = length l.values.items ≡ l.counter
