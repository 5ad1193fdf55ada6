-- A program has at most eight slots.
use Rattle.std.proofs.Common.{◌∙◌, ◌++◌, ap, length, map, arith}
use Rattle.std.proofs.Math.ListN.{length-map}
use Rattle.slot_merge.specs.Partials.{empty_partial}
use Rattle.symple_face.specs.CoreSight.{program_of}
use Rattle.vert_tree.proofs.TypedLaws.{few_slots}
use Rattle.machine_steps.proofs.blank.empty_row.Goals as goal

pub add_slots-requires-clause-few : goal.add_slots-requires-clause-few
add_slots-requires-clause-few c =
    let few = few_slots (program_of c.args.split.now) c.args.split.now.program.typed in
    omega (arith, few, ap length c.deref.ensures.value)

pub add_reduced-requires-clause-room : goal.add_reduced-requires-clause-room
add_reduced-requires-clause-room c =
    let few = few_slots (program_of c.args.split.now) c.args.split.now.program.typed in
    let slots = c.deref.result.now in
    let ops = map (λ s. s.op) slots in
    let all = ap length (c.add_slots.ensures ∙ ap (λ ps. ps ++ map empty_partial ops) c.new-row.ensures) in
    let partials = length-map ops empty_partial in
    let each = length-map slots (λ s. s.op) in
    omega (arith, few, all, partials, each, ap length c.deref.ensures.value)
