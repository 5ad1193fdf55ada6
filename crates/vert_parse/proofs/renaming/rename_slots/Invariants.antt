use Rattle.std.proofs.Common.{◌≡◌, ◌≤◌, ℕ, true, get_or, length, map, take}
use Rattle.std.specs.List.{list_all}
use Rattle.vert_tree.specs.declared.program.SlotDecl.{SlotDecl}
use Rattle.vert_tree.specs.Views.{view_slot}
use Rattle.vert_parse.specs.Idents.{slot_all}
use Rattle.vert_parse.specs.Parsing.{is_fresh}
use Rattle.vert_parse.proofs.renaming.rename_slots.Given as goal

-- those before this one have their new numbers
abbrev pub invariant-loop-i : goal.invariant-loop-i
invariant-loop-i l = record {
  unvisited : (length l.slots.items ≡ length l.initial.slots.items) ×
      ((k : ℕ) (d : SlotDecl) → l.i ≤ k → get_or l.slots.items k d ≡ get_or l.initial.slots.items k d);
  same : map (view_slot l.used.keys) (take l.i l.slots.items)
      ≡ map (view_slot l.names) (take l.i l.initial.slots.items);
  fresh : list_all (slot_all (is_fresh (length l.used.keys))) (take l.i l.slots.items) ≡ true;
}
