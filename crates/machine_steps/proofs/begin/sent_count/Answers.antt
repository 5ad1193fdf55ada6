-- A vertex sends few words.
use Rattle.std.proofs.Common.{◌∙◌, ap, arith, sym}
use Rattle.vert_tree.proofs.TypedLaws.{few_sends}
use Rattle.machine_steps.proofs.begin.sent_count.Goals as goal

pub returns-in-Some-clause-few : goal.returns-in-Some-clause-few
returns-in-Some-clause-few c =
    let program = c.args.ground.now.part.split.value.program in
    let few = few_sends program.program program.typed c.in-Some.sparse
    (ap (λ p. p.sparse) (sym c.program.ensures) ∙ c.in-Some.is) in
    omega (arith, few, c.len.ensures)
