use Rattle.std.proofs.Common.{arith}
use Rattle.word_kinds.specs.Fits.{stmt_fits}
use Rattle.word_kinds.proofs.FitLaws.{if_else_fits, if_fits, one_fits_more}
use Rattle.word_kinds.proofs.literals.+statement.Goals as goal

pub body_is_fit-loop-stmt-preserved : goal.body_is_fit-loop-stmt-preserved
body_is_fit-loop-stmt-preserved t c =
    one_fits_more stmt_fits c.args.body.now c.loop-stmt.stmt-index c.stmt-item.result (omega arith) c.stmt-item.is
    c.loop-stmt.invariant c.stmt_is_fit.ensures

pub stmt_is_fit-returns-in-Some : goal.stmt_is_fit-returns-in-Some
stmt_is_fit-returns-in-Some t c =
    if_else_fits c.in-If.field-0 c.in-If.test c.in-If.held c.in-If.otherwise c.in-Some.others c.args.stmt.now
    c.deref.result.now c.deref-in-Some.result.now c.in-If.is c.in-Some.is c.deref.ensures.value
    c.deref-in-Some.ensures.value
    c.expr_is_fit-in-If.ensures c.body_is_fit.ensures c.body_is_fit-in-Some.ensures

pub stmt_is_fit-returns-in_default : goal.stmt_is_fit-returns-in_default
stmt_is_fit-returns-in_default t c =
    if_fits c.in-If.field-0 c.in-If.test c.in-If.held c.in-If.otherwise c.args.stmt.now c.deref.result.now
    c.in-If.is c.in_default.is c.deref.ensures.value c.expr_is_fit-in-If.ensures c.body_is_fit.ensures
