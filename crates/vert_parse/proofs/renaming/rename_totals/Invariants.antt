use Rattle.std.proofs.Common.{◌≡◌, ◌≤◌, ℕ, true, get_or, length, map, take}
use Rattle.std.specs.List.{list_all}
use Rattle.vert_tree.specs.declared.program.TotalDecl.{TotalDecl}
use Rattle.vert_tree.specs.Views.{view_total}
use Rattle.vert_parse.specs.Idents.{total_all}
use Rattle.vert_parse.specs.Parsing.{is_fresh}
use Rattle.vert_parse.proofs.renaming.rename_totals.Given as goal

-- those before this one have their new numbers
abbrev pub invariant-loop-i : goal.invariant-loop-i
invariant-loop-i l = record {
  unvisited : (length l.totals.items ≡ length l.initial.totals.items) ×
      ((k : ℕ) (d : TotalDecl) → l.i ≤ k → get_or l.totals.items k d ≡ get_or l.initial.totals.items k d);
  same : map (view_total l.used.keys) (take l.i l.totals.items)
      ≡ map (view_total l.names) (take l.i l.initial.totals.items);
  fresh : list_all (total_all (is_fresh (length l.used.keys))) (take l.i l.totals.items) ≡ true;
}
