-- A typed program has no more than 4 totals.
use Rattle.std.proofs.Common.{arith}
use Rattle.vert_tree.proofs.TypedLaws.{few_totals}
use Rattle.symple_face.proofs.words.total_count.Goals as goal

pub overflow_cast-result : goal.overflow_cast-result
overflow_cast-result c = omega (
  arith,
  c.len.ensures,
  few_totals c.args.split.now.program.program c.args.split.now.program.typed,
)
