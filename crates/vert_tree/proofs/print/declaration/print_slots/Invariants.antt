use Rattle.std.proofs.Common.{◌≡◌, ◌++◌, flat_map, map, take}
use Rattle.std.specs.String.{string_bytes}
use Rattle.vert_tree.specs.Printed.{printed_slot}
use Rattle.vert_tree.specs.Views.{view_slot}
use Rattle.vert_tree.proofs.print.declaration.print_slots.Given as goal

abbrev pub invariant-lines : goal.invariant-lines
invariant-lines l = string_bytes l.out ≡ string_bytes l.initial.out
    ++ flat_map printed_slot (map (view_slot l.names) (take l.slot-index l.slots))
