use Rattle.std.proofs.Common.{rules, ◌∙◌, arith}
use Rattle.std.proofs.lemmas.List.Folds.{list_all-map}
use Rattle.vert_tree.specs.declared.statement.Stmt.TheFolds.{the_lemmas}
use Rattle.vert_types.specs.Scopes.{dictionary_in, names_in, view_place, view_rights}
use Rattle.vert_types.proofs.StatementLaws.{block_turn, if_found, if_else_found}
use Rattle.vert_types.proofs.statement.+statement.Goals as goal

pub check_body-loop-stmt-preserved : goal.check_body-loop-stmt-preserved
check_body-loop-stmt-preserved t c =
    block_turn (dictionary_in c.args.scope.now) (view_rights c.args.rights.now) (view_place c.args.place.now)
    (names_in c.args.scope.now) c.args.body.now c.loop-stmt.stmt-index c.stmt-item.result (omega arith)
    c.stmt-item.is c.loop-stmt.found.first c.check_stmt.new.found.first c.check_stmt.ensures
    ∙ c.loop-stmt.invariant

pub check_stmt-check_body-requires : goal.check_stmt-check_body-requires
check_stmt-check_body-requires t c = (
  search (rules, the_lemmas),
  (c.requires.scope, search (rules, the_lemmas, list_all-map)),
)

pub check_stmt-check_body-requires-in-Some : goal.check_stmt-check_body-requires-in-Some
check_stmt-check_body-requires-in-Some t c = (
  search (rules, the_lemmas),
  (c.requires.scope, search (rules, the_lemmas, list_all-map)),
)

pub check_stmt-returns-in-Some : goal.check_stmt-returns-in-Some
check_stmt-returns-in-Some t c =
    if_else_found (dictionary_in c.args.scope.now) (view_rights c.args.rights.now) (view_place c.args.place.now)
    (names_in c.args.scope.now) c.in-If.field-0 c.in-If.test c.in-If.held c.in-If.otherwise c.in-Some.body
    c.args.stmt.now c.deref.result.now c.deref-in-Some.result.now c.args.found.now.first
    c.check_as-in-If.new.found.first c.check_body.new.found.first c.check_body-in-Some.new.found.first c.in-If.is
    c.in-Some.is c.deref.ensures.value c.deref-in-Some.ensures.value c.check_as-in-If.ensures c.check_body.ensures
    c.check_body-in-Some.ensures

pub check_stmt-returns-in_default : goal.check_stmt-returns-in_default
check_stmt-returns-in_default t c =
    if_found (dictionary_in c.args.scope.now) (view_rights c.args.rights.now) (view_place c.args.place.now)
    (names_in c.args.scope.now) c.in-If.field-0 c.in-If.test c.in-If.held c.in-If.otherwise c.args.stmt.now
    c.deref.result.now c.args.found.now.first c.check_as-in-If.new.found.first c.check_body.new.found.first
    c.in-If.is c.in_default.is c.deref.ensures.value c.check_as-in-If.ensures c.check_body.ensures
