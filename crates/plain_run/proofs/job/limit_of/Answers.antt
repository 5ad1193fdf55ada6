use Rattle.std.proofs.Common.{arith}
use Rattle.vert_tree.proofs.TypedLaws.{few_rounds}
use Rattle.plain_run.proofs.job.limit_of.Goals as goal

pub overflow_cast-result : goal.overflow_cast-result
overflow_cast-result c = omega (arith, few_rounds c.args.program.now.program c.args.program.now.typed)

pub returns-clause-few : goal.returns-clause-few
returns-clause-few c = omega (arith, few_rounds c.args.program.now.program c.args.program.now.typed)
