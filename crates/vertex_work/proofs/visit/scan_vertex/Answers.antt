-- The slots of the program are few, and each begins empty.
use Rattle.std.proofs.Common.{ap, length, map, sym, ◌∙◌, arith}
use Rattle.std.proofs.lemmas.Simd.{map-map}
use Rattle.vert_tree.proofs.TypedLaws.{few_slots}
use Rattle.slot_merge.specs.Partials.{empty_partial}
use Rattle.vertex_work.proofs.visit.scan_vertex.Goals as goal

pub clear_emits-requires : goal.clear_emits-requires
clear_emits-requires c =
    let program = c.args.body.now.split.now.program in
    let few = few_slots program.program program.typed in
    let size = ap length c.deref.ensures.value in
    omega (arith, few, size)

pub step_vertex-count-requires-clause-empty : goal.step_vertex-count-requires-clause-empty
step_vertex-count-requires-clause-empty c =
    let slots = c.args.body.now.split.now.program.program.slots.items in
    c.clear_emits.ensures
    ∙ ap (map (λ s. empty_partial s.op)) c.deref.ensures.value
    ∙ sym (map-map empty_partial (λ s. s.op) slots)
