use Rattle.std.proofs.Common.{◌<◌, length, get_or, ◌∙◌, arith}
use Rattle.std.proofs.lemmas.List.{get_or_default}
use Rattle.vert_eval.specs.Rounds.{emitted_over, sender_at, slot_ops}
use Rattle.plain_run.specs.Views.{program_of, scene_of}
use Rattle.plain_run.proofs.EnvLaws.{emitted_more}
use Rattle.plain_run.proofs.TurnLaws.{some_edge}
use Rattle.plain_run.proofs.sparse.take_all.Goals as goal

pub loop-member-preserved : goal.loop-member-preserved
loop-member-preserved c =
    let l = c.loop-member in
    let h = c.take_from.ensures in
    let scene = scene_of c.args.scene.now in
    let ops = slot_ops (program_of c.args.scene.now) in
    let members = c.args.members.now in
    let m = get_or members l.member-index some_edge in
    let lt : l.member-index < length members = omega arith in
    record {
      emits = emitted_more (emitted_over scene ops c.args.sparse.now (sender_at scene ops c.args.v)) members
          l.member-index m c.args.emits.now.slots.items l.emits.slots.items c.take_from.new.emits.slots.items lt
          (get_or_default members l.member-index some_edge m lt) l.invariant.emits h.emits;
      partials = h.partials ∙ l.invariant.partials;
    }
