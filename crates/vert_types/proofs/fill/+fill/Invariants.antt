use Rattle.std.proofs.Common.{◌≡◌, true, List, take}
use Rattle.std.specs.declared.alloc.Global.{Global}
use Rattle.std.specs.declared.string.String.{String}
use Rattle.vert_tree.specs.Views.{view_block}
use Rattle.vert_types.specs.Filled.{body_filled}
use Rattle.vert_types.specs.Scopes.{what_at}
use Rattle.vert_types.proofs.fill.+fill.Given as goal

-- the statements before this one are filled
abbrev pub invariant-fill_body-loop-i : goal.invariant-fill_body-loop-i
invariant-fill_body-loop-i l = record {
  unvisited : goal.unvisited-fill_body-loop-i l;
  same : (names : List (String Global)) → view_block names l.body.items ≡ view_block names l.initial.body.items;
  filled : body_filled (what_at l.meanings) (take l.i l.body.items) ≡ true;
}
