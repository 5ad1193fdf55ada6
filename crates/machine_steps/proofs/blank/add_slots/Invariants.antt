-- The partials of the first slots.
use Rattle.std.proofs.Common.{◌≡◌, ◌++◌, take, map}
use Rattle.slot_merge.specs.Partials.{empty_partial}
use Rattle.machine_steps.proofs.blank.add_slots.Given as goal

abbrev pub invariant-loop-slot : goal.invariant-loop-slot
invariant-loop-slot l =
    l.row.items ≡ l.initial.row.items ++ map empty_partial (map (λ s. s.op) (take l.slot-index l.slots))
