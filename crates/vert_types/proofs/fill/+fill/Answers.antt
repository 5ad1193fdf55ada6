use Rattle.std.proofs.Common.{rules, ◌<◌, length, ◌≡◌, get_or, ◌∙◌, arith, sym, refl, ap, Some}
use Rattle.std.specs.Prelude.{option_map}
use Rattle.std.proofs.lemmas.List.Folds.{list_all-map}
use Rattle.vert_tree.specs.declared.statement.Stmt as statements
use Rattle.vert_tree.specs.declared.statement.Stmt.TheFolds.{the_lemmas}
use Rattle.vert_tree.specs.Places.{option_all}
use Rattle.vert_tree.specs.Views.{view, view_block, view_statement}
use Rattle.vert_types.specs.Parsed.{stmt_known}
use Rattle.vert_types.specs.Filled.{body_filled, stmt_filled}
use Rattle.vert_types.specs.Scopes.{what_at}
use Rattle.vert_types.proofs.FillLaws.{all_at, all_with, if_filled, if_same, unvisited_after, view_set}
use Rattle.vert_types.proofs.fill.+fill.Goals as goal

pub fill_body-fill_stmt-requires : goal.fill_body-fill_stmt-requires
fill_body-fill_stmt-requires t c =
    let l = c.loop-i in
    let old = c.args.body.now.items in
    let d = c.index_mut.result.now in
    let lt : l.i < length old = omega arith in
    let is : d ≡ get_or old l.i d = c.index_mut.ensures.value ∙ l.invariant.unvisited.1 l.i d (omega arith) in (
      search (rules, the_lemmas),
      ap (stmt_known (length c.args.meanings.now)) is
          ∙ all_at (stmt_known (length c.args.meanings.now)) old l.i d lt c.requires,
    )

pub fill_body-loop-i-preserved : goal.fill_body-loop-i-preserved
fill_body-loop-i-preserved t c =
    let l = c.loop-i in
    let items = l.body.items in
    let lt : l.i < length items = omega arith in
    record {
      unvisited = unvisited_after items c.args.body.now.items l.i c.fill_stmt.new.stmt l.invariant.unvisited;
      same = λ names. view_set names items l.i c.fill_stmt.new.stmt c.index_mut.result.now lt
          (c.fill_stmt.ensures.same names ∙ ap (view_statement names) c.index_mut.ensures.value)
          ∙ l.invariant.same names;
      filled = all_with (stmt_filled (what_at c.args.meanings.now)) items l.i c.fill_stmt.new.stmt lt
          l.invariant.filled c.fill_stmt.ensures.filled;
    }

pub fill_stmt-fill_body-requires : goal.fill_stmt-fill_body-requires
fill_stmt-fill_body-requires t c = (search (rules, the_lemmas), search (rules, the_lemmas, list_all-map))

pub fill_stmt-fill_body-requires-in-Some : goal.fill_stmt-fill_body-requires-in-Some
fill_stmt-fill_body-requires-in-Some t c = (search (rules, the_lemmas), search (rules, the_lemmas, list_all-map))

pub fill_stmt-returns-in-Some-clause-filled : goal.fill_stmt-returns-in-Some-clause-filled
fill_stmt-returns-in-Some-clause-filled t c = if_filled (what_at c.args.meanings.now) _ c.fill_expr-in-If.new.e
    c.fill_body.new.body (Some c.fill_body-in-Some.new.body) c.fill_expr-in-If.ensures.filled
    c.fill_body.ensures.filled c.fill_body-in-Some.ensures.filled

pub fill_stmt-returns-in-Some-clause-same : goal.fill_stmt-returns-in-Some-clause-same
unfolding statements.out-Stmt denote.Hole.Carrier.out
fill_stmt-returns-in-Some-clause-same t c = λ names.
    if_same names c.in-If.field-0 _ c.in-If.test c.fill_expr-in-If.new.e c.in-If.held c.fill_body.new.body
    c.in-If.otherwise (Some c.fill_body-in-Some.new.body) c.args.stmt.now c.in-If.is (rw c.in-If.is refl)
    (c.fill_expr-in-If.ensures.same names ∙ ap (view names) c.in-If.test-is) (c.fill_body.ensures.same names
    ∙ ap (λ b. view_block names b.items) c.in-If.held-is) (ap Some (c.fill_body-in-Some.ensures.same names)
    ∙ ap (option_map (λ b. view_block names b.items)) (sym c.in-Some.is ∙ c.in-If.otherwise-is))

pub fill_stmt-returns-in_default-clause-same : goal.fill_stmt-returns-in_default-clause-same
unfolding statements.out-Stmt denote.Hole.Carrier.out
fill_stmt-returns-in_default-clause-same t c = λ names.
    if_same names c.in-If.field-0 _ c.in-If.test c.fill_expr-in-If.new.e c.in-If.held c.fill_body.new.body
    c.in-If.otherwise _ c.args.stmt.now c.in-If.is (rw c.in-If.is refl) (c.fill_expr-in-If.ensures.same names
    ∙ ap (view names) c.in-If.test-is) (c.fill_body.ensures.same names
    ∙ ap (λ b. view_block names b.items) c.in-If.held-is)
    (ap (option_map (λ b. view_block names b.items)) c.in-If.otherwise-is)

pub fill_stmt-returns-in_default-clause-filled : goal.fill_stmt-returns-in_default-clause-filled
fill_stmt-returns-in_default-clause-filled t c = if_filled (what_at c.args.meanings.now) _ c.fill_expr-in-If.new.e
    c.fill_body.new.body _ c.fill_expr-in-If.ensures.filled c.fill_body.ensures.filled
    (ap (option_all (λ b. body_filled (what_at c.args.meanings.now) b.items)) c.in_default.is)
