-- The slots of the program are few.
use Rattle.std.proofs.Common.{arith}
use Rattle.vert_tree.proofs.TypedLaws.{few_slots}
use Rattle.machine_steps.proofs.scan.pass_over.Goals as goal

pub put_none-requires : goal.put_none-requires
put_none-requires c =
    let program = c.args.body.now.split.now.program in
    let few = few_slots program.program program.typed in
    omega (arith, few, c.len.ensures)
