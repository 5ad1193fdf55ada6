use Rattle.std.proofs.Common.{rules, ◌<◌, length, ◌≡◌, get_or, ◌∙◌, arith, sym, refl, ap, Some}
use Rattle.std.specs.Prelude.{option_map}
use Rattle.std.proofs.lemmas.List.Folds.{list_all-map}
use Rattle.vert_tree.specs.declared.statement.Stmt as statements
use Rattle.vert_tree.specs.declared.statement.Stmt.TheFolds.{the_lemmas}
use Rattle.vert_tree.specs.Places.{option_all}
use Rattle.vert_tree.specs.Views.{view, view_block, view_statement}
use Rattle.vert_parse.specs.Entered.{has_place}
use Rattle.vert_parse.specs.Idents.{body_all, stmt_all}
use Rattle.vert_parse.specs.Parsing.{is_fresh}
use Rattle.vert_parse.proofs.Renames.{all_at, all_whole, all_with, block_whole, if_all, if_same, same_with, unvisited_after}
use Rattle.vert_parse.proofs.renaming.+renaming.Goals as goal

pub rename_body-rename_stmt-requires : goal.rename_body-rename_stmt-requires
rename_body-rename_stmt-requires t c =
    let l = c.loop-i in
    let old = c.args.body.now.items in
    let d = c.index_mut.result.now in
    let p = stmt_all (has_place c.args.names.now c.args.used.now.keys) in
    let lt : l.i < length old = omega arith in
    let is : d ≡ get_or old l.i d = c.index_mut.ensures.value ∙ l.invariant.unvisited.1 l.i d (omega arith) in
    (search (rules, the_lemmas), (ap p is ∙ all_at p old l.i d lt c.requires.places, c.requires.few))

pub rename_body-loop-i-preserved : goal.rename_body-loop-i-preserved
rename_body-loop-i-preserved t c =
    let l = c.loop-i in
    let items = l.body.items in
    let old = c.args.body.now.items in
    let d = c.index_mut.result.now in
    let lt : l.i < length items = omega arith in
    let lo : l.i < length old = omega arith in
    let is : d ≡ get_or old l.i d = c.index_mut.ensures.value ∙ l.invariant.unvisited.1 l.i d (omega arith) in
    record {
      unvisited = unvisited_after items old l.i c.rename_stmt.new.stmt l.invariant.unvisited;
      same = same_with (view_statement c.args.used.now.keys) (view_statement c.args.names.now) items old l.i
          c.rename_stmt.new.stmt d lt lo l.invariant.same (c.rename_stmt.ensures.same
          ∙ ap (view_statement c.args.names.now) is);
      fresh = all_with (stmt_all (is_fresh (length c.args.used.now.keys))) items l.i c.rename_stmt.new.stmt lt
          l.invariant.fresh c.rename_stmt.ensures.fresh;
    }

pub rename_body-returns-clause-same : goal.rename_body-returns-clause-same
rename_body-returns-clause-same t c =
    let l = c.loop-i in
    let e = l.invariant.unvisited.0 in
    block_whole c.args.names.now c.args.used.now.keys l.body.items c.args.body.now.items l.i (omega arith)
    (omega arith) l.invariant.same

pub rename_body-returns-clause-fresh : goal.rename_body-returns-clause-fresh
rename_body-returns-clause-fresh t c =
    let e = c.loop-i.invariant.unvisited.0 in
    all_whole (stmt_all (is_fresh (length c.args.used.now.keys))) c.loop-i.body.items c.loop-i.i (omega arith)
    c.loop-i.invariant.fresh

pub rename_stmt-rename_body-requires : goal.rename_stmt-rename_body-requires
rename_stmt-rename_body-requires t c = (
  search (rules, the_lemmas),
  (search (rules, the_lemmas, list_all-map), c.requires.few),
)

pub rename_stmt-rename_body-requires-in-Some : goal.rename_stmt-rename_body-requires-in-Some
rename_stmt-rename_body-requires-in-Some t c = (
  search (rules, the_lemmas),
  (search (rules, the_lemmas, list_all-map), c.requires.few),
)

pub rename_stmt-returns-in-Some-clause-fresh : goal.rename_stmt-returns-in-Some-clause-fresh
rename_stmt-returns-in-Some-clause-fresh t c =
    if_all (is_fresh (length c.args.used.now.keys)) _ c.rename_expr-in-If.new.expr c.rename_body.new.body
    (Some c.rename_body-in-Some.new.body) c.rename_expr-in-If.ensures.fresh c.rename_body.ensures.fresh
    c.rename_body-in-Some.ensures.fresh

pub rename_stmt-returns-in-Some-clause-same : goal.rename_stmt-returns-in-Some-clause-same
unfolding statements.out-Stmt denote.Hole.Carrier.out
rename_stmt-returns-in-Some-clause-same t c =
    let names = c.args.names.now in
    let used = c.args.used.now.keys in
    if_same names used c.in-If.field-0 _ c.in-If.test c.rename_expr-in-If.new.expr c.in-If.held c.rename_body.new.body
    c.in-If.otherwise (Some c.rename_body-in-Some.new.body) c.args.stmt.now c.in-If.is (rw c.in-If.is refl)
    (c.rename_expr-in-If.ensures.same ∙ ap (view names) c.in-If.test-is) (c.rename_body.ensures.same
    ∙ ap (λ b. view_block names b.items) c.in-If.held-is) (ap Some c.rename_body-in-Some.ensures.same
    ∙ ap (option_map (λ b. view_block names b.items)) (sym c.in-Some.is ∙ c.in-If.otherwise-is))

pub rename_stmt-returns-in_default-clause-same : goal.rename_stmt-returns-in_default-clause-same
unfolding statements.out-Stmt denote.Hole.Carrier.out
rename_stmt-returns-in_default-clause-same t c =
    let names = c.args.names.now in
    let used = c.args.used.now.keys in
    if_same names used c.in-If.field-0 _ c.in-If.test c.rename_expr-in-If.new.expr c.in-If.held c.rename_body.new.body
    c.in-If.otherwise _ c.args.stmt.now c.in-If.is (rw c.in-If.is refl) (c.rename_expr-in-If.ensures.same
    ∙ ap (view names) c.in-If.test-is) (c.rename_body.ensures.same
    ∙ ap (λ b. view_block names b.items) c.in-If.held-is)
    (ap (option_map (λ b. view_block used b.items)) c.in_default.is
    ∙ sym (ap (option_map (λ b. view_block names b.items)) c.in_default.is)
    ∙ ap (option_map (λ b. view_block names b.items)) c.in-If.otherwise-is)

pub rename_stmt-returns-in_default-clause-fresh : goal.rename_stmt-returns-in_default-clause-fresh
rename_stmt-returns-in_default-clause-fresh t c =
    if_all (is_fresh (length c.args.used.now.keys)) _ c.rename_expr-in-If.new.expr c.rename_body.new.body _
    c.rename_expr-in-If.ensures.fresh c.rename_body.ensures.fresh
    (ap (option_all (λ b. body_all (is_fresh (length c.args.used.now.keys)) b.items)) c.in_default.is)
