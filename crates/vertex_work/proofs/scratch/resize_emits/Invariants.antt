-- How many there are so far.
use Rattle.std.proofs.Common.{◌≡◌, length}
use Rattle.vertex_work.proofs.scratch.resize_emits.Given as goal

abbrev pub invariant-slots : goal.invariant-slots
invariant-slots l = length l.emits.slots.items ≡ l.counter
