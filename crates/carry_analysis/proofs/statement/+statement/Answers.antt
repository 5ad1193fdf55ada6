use Rattle.std.proofs.Common.{◌∙◌, arith}
use Rattle.carry_analysis.specs.Walks.{walk_of}
use Rattle.carry_analysis.proofs.MarkLaws.{block_turn, if_walked, if_else_walked}
use Rattle.carry_analysis.proofs.statement.+statement.Goals as goal

pub walk_body-loop-stmt-preserved : goal.walk_body-loop-stmt-preserved
walk_body-loop-stmt-preserved t c =
    block_turn c.args.body.now c.loop-stmt.stmt-index c.stmt-item.result (omega arith) c.stmt-item.is
    (walk_of c.loop-stmt.walk) (walk_of c.walk_stmt.new.walk) c.walk_stmt.ensures
    ∙ c.loop-stmt.invariant

pub walk_stmt-returns-in-Some : goal.walk_stmt-returns-in-Some
walk_stmt-returns-in-Some t c =
    if_else_walked c.in-If.field-0 c.in-If.test c.in-If.held c.in-If.otherwise c.in-Some.body c.args.stmt.now
    c.deref.result.now c.deref-in-Some.result.now (walk_of c.args.walk.now) (walk_of c.walk_expr-in-If.new.walk)
    (walk_of c.walk_body.new.walk)
    (walk_of c.walk_body-in-Some.new.walk) c.in-If.is c.in-Some.is c.deref.ensures.value
    c.deref-in-Some.ensures.value c.walk_expr-in-If.ensures c.walk_body.ensures c.walk_body-in-Some.ensures

pub walk_stmt-returns-in_default : goal.walk_stmt-returns-in_default
walk_stmt-returns-in_default t c =
    if_walked c.in-If.field-0 c.in-If.test c.in-If.held c.in-If.otherwise c.args.stmt.now c.deref.result.now
    (walk_of c.args.walk.now) (walk_of c.walk_expr-in-If.new.walk)
    (walk_of c.walk_body.new.walk) c.in-If.is c.in_default.is c.deref.ensures.value c.walk_expr-in-If.ensures
    c.walk_body.ensures
