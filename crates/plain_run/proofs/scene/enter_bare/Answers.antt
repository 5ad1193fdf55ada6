use Rattle.std.proofs.Common.{◌≤◌, length}
use Rattle.plain_run.specs.Views.{program_of}
use Rattle.vert_tree.proofs.TypedLaws.{few_slots, few_totals}
use Rattle.plain_run.proofs.scene.enter_bare.Goals as goal

pub enter_vertex-requires-clause-totals : goal.enter_vertex-requires-clause-totals
enter_vertex-requires-clause-totals c = rw c.requires.ready.totals
    (few_totals (program_of c.args.scene.now) c.args.scene.now.program.now.typed)

pub clear_values-requires : goal.clear_values-requires
clear_values-requires c =
    let few : length (program_of c.args.scene.now).slots.items ≤ 8 =
    few_slots (program_of c.args.scene.now) c.args.scene.now.program.now.typed in
    rw c.deref.ensures.value few
