-- What stands in the parts of a typed program.
use Rattle.std.proofs.Common.{◌≡◌, ◌≤◌, true, IsTrue, length, sym, ap, ◌∙◌, Some}
use Rattle.std.specs.Prelude.{◌&&◌, nat_le, is_some}
use Rattle.std.specs.List.{list_all}
use Rattle.std.proofs.lemmas.Bool.{and_parts, leb-true}
use Rattle.vert_tree.specs.declared.program.Dense.{Dense}
use Rattle.vert_tree.specs.declared.program.Program.{Program}
use Rattle.vert_tree.specs.Places.{Counts, body_placed, dense_placed, expr_placed, is_placed, lets_placed, loop_rights, no_counts, option_all, round_counts, row_counts, tail_rights}
use Rattle.vert_tree.specs.Typed.{is_typed}
use Rattle.vert_tree.proofs.TypedLaws.{dense_stands}

module _ (p : Program) (typed : is_typed p ≡ true) where
  -- where the lets of the dense block have their places
  abbrev pub inside : Dense → Counts
  inside d = record (round_counts p) { locals = length d.lets.items }

  pub loop_placed : (d : Dense) → p.dense ≡ Some d → IsTrue (body_placed loop_rights (inside d) d.body.items)
  loop_placed d e =
      (and_parts (body_placed loop_rights (inside d) d.body.items) (body_placed tail_rights (inside d) d.tail.items)
      (and_parts (lets_placed (round_counts p) d.lets.items) _
      (and_parts (expr_placed (round_counts p) d.when_test) _ (dense_stands p typed d e)).1).1).0
