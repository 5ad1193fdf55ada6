use Rattle.std.proofs.Common.{◌≡◌, ◌≤◌, ℕ, true, get_or, length, map, take}
use Rattle.std.specs.List.{list_all}
use Rattle.vert_tree.specs.declared.program.Decl.{Decl}
use Rattle.vert_tree.specs.Views.{view_declaration}
use Rattle.vert_parse.specs.Idents.{decl_all}
use Rattle.vert_parse.specs.Parsing.{is_fresh}
use Rattle.vert_parse.proofs.renaming.rename_decls.Given as goal

-- those before this one have their new numbers
abbrev pub invariant-loop-i : goal.invariant-loop-i
invariant-loop-i l = record {
  unvisited : (length l.decls.items ≡ length l.initial.decls.items) ×
      ((k : ℕ) (d : Decl) → l.i ≤ k → get_or l.decls.items k d ≡ get_or l.initial.decls.items k d);
  same : map (view_declaration l.used.keys) (take l.i l.decls.items)
      ≡ map (view_declaration l.names) (take l.i l.initial.decls.items);
  fresh : list_all (decl_all (is_fresh (length l.used.keys))) (take l.i l.decls.items) ≡ true;
}
