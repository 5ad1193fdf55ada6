-- A typed program has no more than 8 slots.
use Rattle.std.proofs.Common.{arith}
use Rattle.vert_tree.proofs.TypedLaws.{few_slots}
use Rattle.symple_face.proofs.words.slot_count.Goals as goal

pub overflow_cast-result : goal.overflow_cast-result
overflow_cast-result c = omega (
  arith,
  c.len.ensures,
  few_slots c.args.split.now.program.program c.args.split.now.program.typed,
)
