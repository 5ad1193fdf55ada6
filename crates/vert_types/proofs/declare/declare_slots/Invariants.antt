use Rattle.std.proofs.Common.{◌≡◌, map, length, drop}
use Rattle.vert_tree.specs.declared.name.What.TheVariants as what
use Rattle.vert_types.specs.Findings.{first_from}
use Rattle.vert_types.specs.Tables.{items_from, table_after, twice_in, typed_slot}
use Rattle.vert_types.proofs.declare.declare_slots.Given as goal

-- what is left to declare leaves what all of it does
abbrev pub invariant-loop-i : goal.invariant-loop-i
invariant-loop-i l = record {
  table : table_after l.meanings.items (items_from what.Slot l.i (map typed_slot (drop l.i l.slots)))
      ≡ table_after l.initial.meanings.items (items_from what.Slot 0 (map typed_slot l.slots));
  wide : length l.meanings.items ≡ length l.initial.meanings.items;
  faults : first_from l.found.first (twice_in l.meanings.items
      (items_from what.Slot l.i (map typed_slot (drop l.i l.slots))))
      ≡ first_from l.initial.found.first (twice_in l.initial.meanings.items
      (items_from what.Slot 0 (map typed_slot l.slots)));
}
