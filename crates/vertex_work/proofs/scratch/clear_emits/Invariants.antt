-- The slots so far.
use Rattle.std.proofs.Common.{◌≡◌, length, map, take}
use Rattle.slot_merge.specs.Partials.{empty_partial}
use Rattle.vertex_work.proofs.scratch.clear_emits.Given as goal

abbrev pub invariant-loop-i : goal.invariant-loop-i
invariant-loop-i l = record {
  first : take l.i l.emits.slots.items ≡ map (λ s. empty_partial s.op) (take l.i l.slots);
  count : length l.emits.slots.items ≡ length l.slots;
}
