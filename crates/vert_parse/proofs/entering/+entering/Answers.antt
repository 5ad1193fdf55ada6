use Rattle.std.proofs.Common.{◌∙◌, arith}
use Rattle.vert_parse.specs.Entered.{texts_in}
use Rattle.vert_parse.proofs.Turns.{block_end, block_turn, if_else_turn, if_turn}
use Rattle.vert_parse.proofs.entering.+entering.Goals as goal

pub enter_body-body-preserved : goal.enter_body-body-preserved
enter_body-body-preserved t c =
    block_turn c.args.names.now c.args.body.now c.body.stmt-index c.stmt-item.result (omega arith) c.stmt-item.is
    (texts_in c.body.used.keys) (texts_in c.enter_stmt.new.used.keys) c.in_ok-enter_stmt.ensures.entered
    ∙ c.body.invariant

pub enter_body-returns-clause-entered : goal.enter_body-returns-clause-entered
enter_body-returns-clause-entered t c =
    block_end c.args.names.now c.args.body.now c.body.stmt-index (omega arith) (texts_in c.args.used.now.keys)
    (texts_in c.body.used.keys) c.body.invariant

pub enter_stmt-returns-in_ok-enter_body-in-Some-clause-entered :
    goal.enter_stmt-returns-in_ok-enter_body-in-Some-clause-entered
enter_stmt-returns-in_ok-enter_body-in-Some-clause-entered t c =
    if_else_turn c.args.names.now c.in-If.field-0 c.in-If.test c.in-If.held c.in-If.otherwise c.in-Some.body
    c.args.stmt.now c.deref.result.now c.deref-in-Some.result.now (texts_in c.args.used.now.keys)
    (texts_in c.enter_expr-in-If.new.used.keys) (texts_in c.enter_body.new.used.keys)
    (texts_in c.enter_body-in-Some.new.used.keys) c.in-If.is c.in-Some.is c.deref.ensures.value
    c.deref-in-Some.ensures.value c.in_ok-enter_expr-in-If.ensures.entered
    c.in_ok-enter_body-in-If.ensures.entered c.in_ok-enter_body-in-Some.ensures.entered

pub enter_stmt-returns-in-None-clause-entered : goal.enter_stmt-returns-in-None-clause-entered
enter_stmt-returns-in-None-clause-entered t c =
    if_turn c.args.names.now c.in-If.field-0 c.in-If.test c.in-If.held c.in-If.otherwise c.args.stmt.now
    c.deref.result.now (texts_in c.args.used.now.keys) (texts_in c.enter_expr-in-If.new.used.keys)
    (texts_in c.enter_body.new.used.keys) c.in-If.is c.in-None.is c.deref.ensures.value
    c.in_ok-enter_expr-in-If.ensures.entered c.in_ok-enter_body-in-If.ensures.entered
