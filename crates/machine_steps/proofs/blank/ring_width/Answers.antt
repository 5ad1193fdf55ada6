-- A program has at most eight lets.
use Rattle.std.proofs.Common.{◌∙◌, ap, arith}
use Rattle.symple_face.specs.Plans.{loop_carry}
use Rattle.symple_face.specs.Shapes.{words_in}
use Rattle.machine_steps.proofs.BlankLaws.{few_words}
use Rattle.machine_steps.proofs.blank.ring_width.Goals as goal

pub returns-in-Some-carry-clause-few : goal.returns-in-Some-carry-clause-few
returns-in-Some-carry-clause-few c =
    let few = few_words c.args.split.now in
    let same = ap (λ o. words_in (loop_carry o)) c.in-Some.is ∙ ap words_in c.in-Some-carry.is in
    omega (arith, few, same, c.from.ensures)
