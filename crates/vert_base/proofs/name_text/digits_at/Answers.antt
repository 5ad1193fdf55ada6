use Rattle.std.proofs.Common.{arith}
use Rattle.std.proofs.lemmas.Int.Digits.{digits_more}
use Rattle.vert_base.proofs.name_text.digits_at.Goals as goal

pub digits-preserved : goal.digits-preserved
digits-preserved c = record {
  within = omega (arith, c.digits-test.true);
  digits = digits_more 10 c.args.text.now c.digits.count c.digits-test.true c.digits.invariant.digits
      c.if-is_ascii_digit.ensures.bound;
}
