use Rattle.vert_lex.proofs.Judging.{too_great}
use Rattle.vert_lex.proofs.kind.number.Goals as goal

pub returns-then-value-digit : goal.returns-then-value-digit
returns-then-value-digit c = too_great c.args.digits.now c.digits.b-index c.digits.value c.from-digit.result
    c.digits-test.true (c.requires c.digits.b-index c.digits-test.true) c.from-digit.ensures c.if-value-digit.true
    c.digits.invariant.passed
