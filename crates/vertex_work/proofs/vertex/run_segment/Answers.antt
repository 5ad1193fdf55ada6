-- A segment begins as the program's loop does, and is run by its code.
use Rattle.std.proofs.Common.{ap, length, subst, sym, ◌∙◌}
use Rattle.slot_merge.specs.Partials.{with_emissions}
use Rattle.vert_code.specs.Blocks.{list_of}
use Rattle.vert_code.specs.declared.instr.Block.TheVariants.{Loop}
use Rattle.vert_vm.specs.Segments.{loop_code}
use Rattle.instrument.specs.Segments.{begun}
use Rattle.machine_parts.specs.Flat.{state_at}
use Rattle.symple_face.specs.CoreScan.{told_words}
use Rattle.vertex_work.specs.Stepping.{SameRound}
use Rattle.vertex_work.proofs.StepLaws.{begun_key, begun_same, body_named, carried_count, ran_same}
use Rattle.vertex_work.proofs.vertex.run_segment.Goals as goal

pub step_segment_over-flow-requires-clause-names : goal.step_segment_over-flow-requires-clause-names
step_segment_over-flow-requires-clause-names g c =
    let b = c.args.body.now in
    body_named b.code.now b.split.now b.dense.now b.parts.now b.is c.args.env.now c.begin_segment.new.env
    c.requires.counts c.begin_segment.ensures.counts

pub put-requires-clause-width : goal.put-requires-clause-width
put-requires-clause-width g c =
    let b = c.args.body.now in
    let size = ap (λ k. k.locals) c.step_segment_over-flow.ensures.kept.counts
    ∙ ap (λ k. k.locals) c.begin_segment.ensures.counts in
    ap length (c.as_slice.ensures.value ∙ c.give.ensures)
    ∙ carried_count b.code.now b.split.now b.dense.now b.parts.now b.is c.step_segment_over-flow.new.env size
    ∙ sym c.requires.width

pub returns-clause-emits : goal.returns-clause-emits
returns-clause-emits g c =
    let b = c.args.body.now in
    let members = g.F.Feed.left c.args.feed.now in
    let list = list_of b.code.now Loop in
    let st = state_at c.args.half.now.states c.args.place in
    let start = c.begin_segment.ensures.begun in
    c.step_segment_over-flow.ensures.emits
    ∙ ap (λ e. with_emissions e.key c.args.emits.now.slots.items (loop_code list members e).emitted) start
    ∙ ap (λ key. with_emissions key c.args.emits.now.slots.items (loop_code list members (begun b.parts.now
    b.dense.now.lets.items (told_words st) c.args.env.now)).emitted)
    (begun_key b.parts.now b.dense.now.lets.items (told_words st) c.args.env.now)

pub returns-clause-same : goal.returns-clause-same
returns-clause-same g c =
    let b = c.args.body.now in
    let st = state_at c.args.half.now.states c.args.place in
    let begins = begun_same b.parts.now b.dense.now.lets.items (told_words st) c.args.env.now in
    ran_same c.args.env.now c.begin_segment.new.env c.step_segment_over-flow.new.env
    (subst (SameRound c.args.env.now) (sym c.begin_segment.ensures.begun) begins)
    c.step_segment_over-flow.ensures.kept
