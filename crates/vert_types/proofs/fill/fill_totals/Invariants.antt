use Rattle.std.proofs.Common.{◌≡◌, ◌&&◌, true, List, map, take}
use Rattle.std.specs.List.{list_all}
use Rattle.std.specs.declared.alloc.Global.{Global}
use Rattle.std.specs.declared.string.String.{String}
use Rattle.vert_tree.specs.Views.{view_total}
use Rattle.vert_types.specs.Filled.{expr_filled, name_filled}
use Rattle.vert_types.specs.Scopes.{what_at}
use Rattle.vert_types.proofs.FillLaws.{IsUnvisited}
use Rattle.vert_types.proofs.fill.fill_totals.Given as goal

-- those before this one are filled
abbrev pub invariant-loop-i : goal.invariant-loop-i
invariant-loop-i l = record {
  unvisited : IsUnvisited l.i l.totals.items l.initial.totals.items;
  same : (names : List (String Global)) → map (view_total names) l.totals.items
      ≡ map (view_total names) l.initial.totals.items;
  filled : list_all (λ t. name_filled (what_at l.meanings) t.name && expr_filled (what_at l.meanings) t.value)
      (take l.i l.totals.items) ≡ true;
}
