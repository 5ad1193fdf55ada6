use Rattle.std.proofs.Common.{arith, get_or, ◌+◌}
use Rattle.std.proofs.lemmas.Int.Digits.{digits_more, digits_value_more}
use Rattle.std.proofs.lemmas.Str.{digit_value_digit}
use Rattle.std.proofs.lemmas.Str.Parse.{digit_at, digits_value-take-le}
use Rattle.vert_base.proofs.name_text.value_of.Goals as goal

pub returns-then-not-is_ascii_digit-clause-found :
    goal.returns-then-not-is_ascii_digit-clause-found
returns-then-not-is_ascii_digit-clause-found c = λ all small.
    let digit = digit_at c.args.word.now c.digits.byte-index all c.digits-test.true in
    let range = c.if-not-is_ascii_digit.ensures.cases in
    absurd (omega (arith, digit, range))

pub returns-then-value-from-clause-found : goal.returns-then-value-from-clause-found
returns-then-value-from-clause-found c = λ all small.
    let more = digits_value_more 10 c.args.word.now c.digits.byte-index c.digits-test.true in
    let most = digits_value-take-le 10 c.args.word.now (c.digits.byte-index + 1) (omega arith) in
    let digit = digit_value_digit _ (digit_at c.args.word.now c.digits.byte-index all c.digits-test.true) in
    absurd (omega (
      arith,
      more,
      most,
      digit,
      c.digits.invariant.passed,
      c.from.ensures,
      c.from-in-digits.ensures,
      c.if-value-from.true,
    ))

pub digits-preserved : goal.digits-preserved
digits-preserved c =
    let more = digits_value_more 10 c.args.word.now c.digits.byte-index c.digits-test.true in
    let tests = c.if-not-is_ascii_digit.ensures in
    let digit = digit_value_digit (get_or c.args.word.now c.digits.byte-index 0) tests.cases in
    record {
      within = omega (arith, c.from-in-digits.ensures, c.if-value-from.false);
      digits = digits_more 10 c.args.word.now c.digits.byte-index c.digits-test.true c.digits.invariant.digits
          tests.bound;
      passed = omega (arith, more, digit, c.digits.invariant.passed, c.from.ensures);
    }
