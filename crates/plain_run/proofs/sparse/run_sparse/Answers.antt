use Rattle.std.proofs.Common.{ap, ◌∙◌}
use Rattle.std.specs.List.{flat_map}
use Rattle.slot_merge.specs.Partials.{with_emissions}
use Rattle.vert_eval.specs.Rounds.{emitted_over, sender_at, slot_ops}
use Rattle.plain_run.specs.Views.{program_of, scene_of}
use Rattle.plain_run.proofs.PieceLaws.{piece_partials}
use Rattle.plain_run.proofs.sparse.run_sparse.Goals as goal

pub take_all-requires-clause-sources : goal.take_all-requires-clause-sources
take_all-requires-clause-sources c = c.members_of-members.ensures.inside.first

pub take_all-requires-2-clause-sources : goal.take_all-requires-2-clause-sources
take_all-requires-2-clause-sources c = c.members_of-members.ensures.inside.rest

pub returns-clause-emits : goal.returns-clause-emits
returns-clause-emits c =
    let scene = scene_of c.args.scene.now in
    let ops = slot_ops (program_of c.args.scene.now) in
    let f = emitted_over scene ops c.args.sparse.now (sender_at scene ops c.args.v) in
    let m = c.members_of-members.result in
    piece_partials f m.first.now m.rest.now c.args.emits.now.slots.items c.take_all.new.emits.slots.items
    c.take_all-2.new.emits.slots.items c.take_all.ensures.emits c.take_all-2.ensures.emits
    ∙ ap (λ es. with_emissions 0 c.args.emits.now.slots.items (flat_map f es)) c.members_of-members.ensures.members
