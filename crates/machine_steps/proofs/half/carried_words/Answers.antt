-- At most eight lets are carried.
use Rattle.std.proofs.Common.{ap, arith}
use Rattle.symple_face.specs.Plans.{loop_carry}
use Rattle.symple_face.specs.Shapes.{words_in}
use Rattle.vertex_work.proofs.StepLaws.{few_words}
use Rattle.machine_steps.proofs.half.carried_words.Goals as goal

pub returns-in-Some-clause-few : goal.returns-in-Some-clause-few
returns-in-Some-clause-few c =
    let b = c.args.body.now in
    let few = few_words b.code.now b.split.now b.dense.now b.parts.now b.is in
    let carry = ap words_in c.in-Some.is in
    let loop = ap (λ o. words_in (loop_carry o)) b.is.loop in
    omega (arith, few, carry, loop, c.from.ensures)
