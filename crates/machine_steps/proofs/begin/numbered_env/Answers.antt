-- A program has few slots.
use Rattle.std.proofs.Common.{arith}
use Rattle.vert_tree.proofs.TypedLaws.{few_slots}
use Rattle.machine_steps.proofs.begin.numbered_env.Goals as goal

pub new_env-requires-clause-slots : goal.new_env-requires-clause-slots
new_env-requires-clause-slots c =
    let program = c.args.ground.now.part.split.value.program in
    omega (arith, few_slots program.program program.typed, c.setting.ensures.slots)
