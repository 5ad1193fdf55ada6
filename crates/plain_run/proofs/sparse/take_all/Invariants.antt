use Rattle.std.proofs.Common.{◌≡◌, length, take}
use Rattle.std.specs.List.{flat_map}
use Rattle.slot_merge.specs.Partials.{with_emissions}
use Rattle.vert_eval.specs.Rounds.{emitted_over, sender_at, slot_ops}
use Rattle.plain_run.specs.Views.{program_of, scene_of}
use Rattle.plain_run.proofs.sparse.take_all.Given as goal

abbrev pub invariant-loop-member : goal.invariant-loop-member
invariant-loop-member l =
    let scene = scene_of l.scene in
    let ops = slot_ops (program_of l.scene) in
    record {
      emits : l.emits.slots.items ≡ with_emissions 0 l.initial.emits.slots.items
          (flat_map (emitted_over scene ops l.sparse (sender_at scene ops l.v)) (take l.member-index l.members));
      partials : length l.emits.slots.items ≡ length l.initial.emits.slots.items;
    }
