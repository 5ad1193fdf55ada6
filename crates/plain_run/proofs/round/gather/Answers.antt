use Rattle.std.proofs.Common.{◌≤◌, length, map, ap, ◌∙◌}
use Rattle.slot_merge.specs.Partials.{empty_partial, with_emissions}
use Rattle.slot_merge.proofs.SlotLaws.{slot_values_are}
use Rattle.vert_eval.specs.Rounds.{gathered, slot_ops}
use Rattle.plain_run.specs.Views.{program_of, scene_of}
use Rattle.plain_run.proofs.SlotLaws.{length_empty}
use Rattle.vert_tree.proofs.TypedLaws.{few_slots}
use Rattle.plain_run.proofs.round.gather.Goals as goal

pub clear_emits-requires : goal.clear_emits-requires
clear_emits-requires c =
    let few : length (program_of c.args.scene.now).slots.items ≤ 8 =
    few_slots (program_of c.args.scene.now) c.args.scene.now.program.now.typed in
    rw c.deref.ensures.value few

pub emit_at-requires-clause-partials : goal.emit_at-requires-clause-partials
emit_at-requires-clause-partials c =
    ap length (c.clear_emits.ensures ∙ ap (λ l. map empty_partial (map (λ s. s.op) l)) c.deref.ensures.value)
    ∙ length_empty (program_of c.args.scene.now).slots.items

pub returns-clause-values : goal.returns-clause-values
returns-clause-values c =
    let program = program_of c.args.scene.now in
    let emitted = (gathered program c.args.ruling (scene_of c.args.scene.now) c.args.v).emitted in
    let empty = c.clear_emits.ensures ∙ ap (λ l. map empty_partial (map (λ s. s.op) l)) c.deref.ensures.value in
    ap (map (λ p. p.value)) (c.emit_at.ensures.emits ∙ ap (λ ps. with_emissions 0 ps emitted) empty)
    ∙ slot_values_are 0 (slot_ops program) emitted
