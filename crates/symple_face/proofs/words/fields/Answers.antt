-- A typed program has no more than sixteen fields.
use Rattle.std.proofs.Common.{ap, arith, length}
use Rattle.vert_tree.proofs.TypedLaws.{few_fields}
use Rattle.symple_face.proofs.words.fields.Goals as goal

pub returns-clause-few : goal.returns-clause-few
returns-clause-few c =
    omega (
      arith,
      ap length c.deref.ensures.value,
      few_fields c.args.split.now.program.program c.args.split.now.program.typed,
    )
