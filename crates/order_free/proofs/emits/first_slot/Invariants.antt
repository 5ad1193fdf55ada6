use Rattle.std.proofs.Common.{◌≡◌, drop}
use Rattle.order_free.specs.Emits.{least_first, neighbour_emits}
use Rattle.order_free.proofs.emits.first_slot.Given as goal

-- the slots that are left decide as all do
abbrev pub invariant-loop-slot : goal.invariant-loop-slot
invariant-loop-slot l =
    (l.place ≡ l.slot-index)
    × (least_first (neighbour_emits l.program) l.place (drop l.slot-index l.program.slots.items) ≡ least_first
    (neighbour_emits l.program) 0 l.program.slots.items)
