use Rattle.std.proofs.Common.{◌≡◌, ◌≤◌, filter, length}
use Rattle.std.specs.List.{range_with_len}
use Rattle.instrument.specs.Loops.{body_emits}
use Rattle.instrument.proofs.split.slots_of.Given as goal

abbrev pub invariant-loop-slot : goal.invariant-loop-slot
invariant-loop-slot l = record {
  slots : l.slots.items ≡ filter (λ slot. body_emits slot l.body) (range_with_len 0 l.slot);
  few : length l.slots.items ≤ l.slot;
}
