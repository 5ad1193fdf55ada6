use Rattle.instrument.proofs.EmitLaws.{held_emits, none_emits, others_emit}
use Rattle.instrument.proofs.split.+emits.Goals as goal
use Rattle.std.proofs.Common.{sym, ◌∙◌}

pub stmt_emits-returns-then-body_emits : goal.stmt_emits-returns-then-body_emits
stmt_emits-returns-then-body_emits t c =
    held_emits c.args.slot _ _ c.in-If.held c.in-If.otherwise c.args.stmt.now c.deref.result.now c.in-If.is
    c.deref.ensures.value (sym c.body_emits.ensures ∙ c.if-body_emits.true)

pub stmt_emits-returns-in-Some : goal.stmt_emits-returns-in-Some
stmt_emits-returns-in-Some t c =
    c.body_emits-in-Some.ensures
    ∙ others_emit c.args.slot _ _ c.in-If.held c.in-If.otherwise c.in-Some.others c.args.stmt.now c.deref.result.now
    c.deref-in-Some.result.now c.in-If.is c.in-Some.is c.deref.ensures.value c.deref-in-Some.ensures.value
    (sym c.body_emits.ensures ∙ c.if-body_emits.false)

pub stmt_emits-returns-in-None : goal.stmt_emits-returns-in-None
stmt_emits-returns-in-None t c =
    none_emits c.args.slot _ _ c.in-If.held c.in-If.otherwise c.args.stmt.now c.deref.result.now c.in-If.is c.in-None.is
    c.deref.ensures.value (sym c.body_emits.ensures ∙ c.if-body_emits.false)
