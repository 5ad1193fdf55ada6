use Rattle.std.proofs.Common.{◌<◌, arith, length}
use Rattle.edge_reader.proofs.ShortLaws.{short_bound, begins_short}
use Rattle.edge_reader.proofs.words.short_number.Goals as goal

pub returns-in_default-clause-says : goal.returns-in_default-clause-says
returns-in_default-clause-says c =
    let some : 0 < c.loop-i.i = omega (arith, c.if-i-eq0.false) in
    let within : c.loop-i.i < length c.args.text.now = omega (arith, c.requires, c.loop-i-test.true) in
    begins_short c.args.text.now c.loop-i.value c.loop-i.i c.loop-i.invariant.digits c.loop-i.invariant.value
    c.loop-i.invariant.small c.loop-i-test.true some within

pub overflow_mul-value : goal.overflow_mul-value
overflow_mul-value c =
    let most = short_bound c.loop-i.value c.loop-i.i c.loop-i.invariant.small c.loop-i-test.true in
    omega (arith, most)

pub overflow_add-value : goal.overflow_add-value
overflow_add-value c =
    let most = short_bound c.loop-i.value c.loop-i.i c.loop-i.invariant.small c.loop-i-test.true in
    omega (arith, most, c.in-Some.ensures.small)
