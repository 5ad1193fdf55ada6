use Rattle.std.proofs.Common.{◌≡◌, true, length, map, take}
use Rattle.vert_tree.specs.Views.{view_statement}
use Rattle.vert_parse.specs.Idents.{body_all}
use Rattle.vert_parse.specs.Parsing.{is_fresh}
use Rattle.vert_parse.proofs.renaming.+renaming.Given as goal

-- the statements before this one have their new numbers
abbrev pub invariant-rename_body-loop-i : goal.invariant-rename_body-loop-i
invariant-rename_body-loop-i l = record {
  unvisited : goal.unvisited-rename_body-loop-i l;
  same : map (view_statement l.used.keys) (take l.i l.body.items)
      ≡ map (view_statement l.names) (take l.i l.initial.body.items);
  fresh : body_all (is_fresh (length l.used.keys)) (take l.i l.body.items) ≡ true;
}
