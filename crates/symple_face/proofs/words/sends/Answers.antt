-- A typed program has no more than eight sends.
use Rattle.std.proofs.Common.{ap, arith, length}
use Rattle.vert_tree.specs.Places.{sends_in}
use Rattle.symple_face.proofs.LimitLaws.{few_sends}
use Rattle.symple_face.proofs.words.sends.Goals as goal

pub returns-in-Some-clause-few : goal.returns-in-Some-clause-few
returns-in-Some-clause-few c =
    omega (
      arith,
      ap length c.deref.ensures.value,
      ap (λ s. length (sends_in s)) c.in-Some.is,
      few_sends c.args.split.now.program.program c.args.split.now.program.typed,
    )
