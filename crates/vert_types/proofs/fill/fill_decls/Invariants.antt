use Rattle.std.proofs.Common.{◌≡◌, true, List, map, take}
use Rattle.std.specs.declared.alloc.Global.{Global}
use Rattle.std.specs.declared.string.String.{String}
use Rattle.vert_tree.specs.Views.{view_declaration}
use Rattle.vert_types.specs.Filled.{decls_filled}
use Rattle.vert_types.specs.Scopes.{what_at}
use Rattle.vert_types.proofs.FillLaws.{IsUnvisited}
use Rattle.vert_types.proofs.fill.fill_decls.Given as goal

-- those before this one are filled
abbrev pub invariant-loop-i : goal.invariant-loop-i
invariant-loop-i l = record {
  unvisited : IsUnvisited l.i l.decls.items l.initial.decls.items;
  same : (names : List (String Global)) → map (view_declaration names) l.decls.items
      ≡ map (view_declaration names) l.initial.decls.items;
  filled : decls_filled (what_at l.meanings) (take l.i l.decls.items) ≡ true;
}
