use Rattle.std.proofs.Common.{◌≡◌, true, List, map, take}
use Rattle.std.specs.List.{list_all}
use Rattle.std.specs.declared.alloc.Global.{Global}
use Rattle.std.specs.declared.string.String.{String}
use Rattle.vert_tree.specs.Views.{view_slot}
use Rattle.vert_types.specs.Filled.{name_filled}
use Rattle.vert_types.specs.Scopes.{what_at}
use Rattle.vert_types.proofs.FillLaws.{IsUnvisited}
use Rattle.vert_types.proofs.fill.fill_slots.Given as goal

-- those before this one are filled
abbrev pub invariant-loop-i : goal.invariant-loop-i
invariant-loop-i l = record {
  unvisited : IsUnvisited l.i l.slots.items l.initial.slots.items;
  same : (names : List (String Global)) → map (view_slot names) l.slots.items
      ≡ map (view_slot names) l.initial.slots.items;
  filled : list_all (λ s. name_filled (what_at l.meanings) s.name) (take l.i l.slots.items) ≡ true;
}
