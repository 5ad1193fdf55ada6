use Rattle.std.proofs.Common.{◌∙◌, sym, ap}
use Rattle.vert_tree.specs.Places.{body_placed}
use Rattle.slot_merge.specs.Partials.{with_emissions}
use Rattle.plain_run.specs.Views.{scene_of}
use Rattle.plain_run.proofs.PieceLaws.{going_partials, going_reads, loop_broke, loop_going, taken_first}
use Rattle.plain_run.proofs.dense.run_loop.Goals as goal

pub run_members-first-requires-clause-inside : goal.run_members-first-requires-clause-inside
run_members-first-requires-clause-inside c = c.requires.inside.first

pub run_members-requires-clause-inside : goal.run_members-requires-clause-inside
run_members-requires-clause-inside c = c.requires.inside.rest

pub run_members-requires-clause-names : goal.run_members-requires-clause-names
run_members-requires-clause-names c =
    let names = c.requires.names in (
      names.0,
      ap (λ k. body_placed names.0 k c.args.body.now) c.run_members-first.ensures.kept.counts ∙ names.1,
    )

pub returns-in-Broke-clause-env : goal.returns-in-Broke-clause-env
returns-in-Broke-clause-env c =
    let h = c.run_members-first.ensures in
    let m = c.args.members.now in
    h.env ∙ ap (λ r. r.env) (loop_broke (scene_of c.args.scene.now) c.args.body.now m.first.now m.rest.now
    c.args.env.now (sym h.flow ∙ c.in-Broke.is))

pub returns-in-Broke-clause-emits : goal.returns-in-Broke-clause-emits
returns-in-Broke-clause-emits c =
    let h = c.run_members-first.ensures in
    let m = c.args.members.now in
    let env = c.args.env.now in
    h.emits
    ∙ ap (λ r. with_emissions env.key c.args.emits.now.slots.items r.emitted)
    (loop_broke (scene_of c.args.scene.now) c.args.body.now m.first.now m.rest.now env (sym h.flow ∙ c.in-Broke.is))

pub returns-in-Broke-clause-reads : goal.returns-in-Broke-clause-reads
returns-in-Broke-clause-reads c =
    let h = c.run_members-first.ensures in
    let m = c.args.members.now in
    sym (taken_first c.run_members-first.result.read m.first.now m.rest.now h.within)
    ∙ h.reads
    ∙ ap (λ r. r.reads) (loop_broke (scene_of c.args.scene.now) c.args.body.now m.first.now m.rest.now c.args.env.now
    (sym h.flow ∙ c.in-Broke.is))

pub returns-in-Going-clause-env : goal.returns-in-Going-clause-env
returns-in-Going-clause-env c =
    let h = c.run_members-first.ensures in
    let m = c.args.members.now in
    c.run_members.ensures.env
    ∙ ap (λ r. r.env) (loop_going (scene_of c.args.scene.now) c.args.body.now m.first.now m.rest.now c.args.env.now
    c.run_members-first.new.env (sym h.flow ∙ c.in-Going.is) h.env)

pub returns-in-Going-clause-emits : goal.returns-in-Going-clause-emits
returns-in-Going-clause-emits c =
    let h = c.run_members-first.ensures in
    let m = c.args.members.now in
    going_partials (scene_of c.args.scene.now) c.args.body.now m.first.now m.rest.now c.args.env.now
    c.run_members-first.new.env (sym h.flow ∙ c.in-Going.is) h.env
    c.args.emits.now.slots.items c.run_members-first.new.emits.slots.items c.run_members.new.emits.slots.items
    h.kept.key h.emits c.run_members.ensures.emits

pub returns-in-Going-clause-reads : goal.returns-in-Going-clause-reads
returns-in-Going-clause-reads c =
    let h = c.run_members-first.ensures in
    let m = c.args.members.now in
    let goes = sym h.flow ∙ c.in-Going.is in
    going_reads (scene_of c.args.scene.now) c.args.body.now m.first.now m.rest.now c.args.env.now
    c.run_members-first.new.env goes h.env
    c.run_members-first.result.read c.run_members.result.read (h.whole c.in-Going.is) h.reads
    c.run_members.ensures.reads
