use Rattle.std.proofs.Common.{◌≡◌, take, map}
use Rattle.slot_merge.specs.Partials.{empty_partial}
use Rattle.plain_run.proofs.slots.clear_emits.Given as goal

abbrev pub invariant-loop-slot : goal.invariant-loop-slot
invariant-loop-slot l = l.emits.slots.items ≡ map empty_partial (map (λ s. s.op) (take l.slot-index l.slots))
