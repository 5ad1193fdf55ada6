-- What a typed program says of its dense block.
use Rattle.std.proofs.Common.{◌≡◌, ◌≤◌, ◌+◌, ℕ, suc, Bool, true, List, [], ◌∷◌, length, refl, sym, ap, ◌∙◌, Option, None, Some, option_map, arith}
use Rattle.std.specs.Prelude.{◌&&◌, nat_le, is_some}
use Rattle.std.specs.List.{list_all}
use Rattle.std.proofs.lemmas.Bool.{and_parts, leb-true}
use Rattle.vert_tree.specs.declared.program.Dense.{Dense}
use Rattle.vert_tree.specs.declared.program.Decl.{Decl}
use Rattle.vert_tree.specs.declared.program.Program.{Program}
use Rattle.vert_tree.specs.Places.{Counts, body_placed, expr_placed, lets_in, lets_placed, loop_rights, round_counts}
use Rattle.vert_tree.specs.Typed.{is_typed}
use Rattle.vert_tree.proofs.TypedLaws.{dense_stands, few_lets}
use Rattle.carry_analysis.specs.Classes.{Mark, body_marks, let_classes}
use Rattle.instrument.specs.declared.split.SplitLoop.{SplitLoop}
use Rattle.instrument.specs.Loops.{loop_split}

-- the body of the loop has the rights of a loop body
pub body_stands : (p : Program) (d : Dense) → is_typed p ≡ true → p.dense ≡ Some d →
    (c : Counts) × (body_placed loop_rights c d.body.items ≡ true)
body_stands p d typed e =
    let h = and_parts (expr_placed (round_counts p) d.when_test) _ (dense_stands p typed d e) in
    let i = and_parts (lets_placed (round_counts p) d.lets.items) _ h.1 in
    let inner : Counts = record (round_counts p) { locals = length d.lets.items } in
    (inner, (and_parts (body_placed loop_rights inner d.body.items) _ i.1).0)

pub length-let_classes : (i : ℕ) (ds : List Decl) (ms : List Mark) → length (let_classes i ds ms) ≡ length ds
length-let_classes i [] ms = refl
length-let_classes i (d ∷ ds) ms = ap suc (length-let_classes (i + 1) ds ms)

-- a dense block has at most eight lets, if it is there
pub few_in : (p : Program) → is_typed p ≡ true → length (lets_in p.dense) ≤ 8
few_in p typed = at p.dense refl
  where
    at : (o : Option Dense) → p.dense ≡ o → length (lets_in o) ≤ 8
    at None e = omega arith
    at (Some d) e = few_lets p typed d e

-- there is a class for each let
pub each_class : (s : SplitLoop) (o : Option Dense) → option_map loop_split o ≡ Some s →
    length s.classes.locals.items ≡ length (lets_in o)
each_class s None e = cc
each_class s (Some d) e =
    let same : loop_split d ≡ s = cc in
    ap (λ x. length x.classes.locals.items) (sym same) ∙ length-let_classes 0 d.lets.items (body_marks d.body.items)
