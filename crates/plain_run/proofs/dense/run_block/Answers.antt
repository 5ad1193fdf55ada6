use Rattle.std.proofs.Common.{◌≡◌, length, map, take, sym, ap, ◌∙◌}
use Rattle.vert_base.specs.Neighbours.{source}
use Rattle.vert_tree.specs.Places.{body_placed, lets_placed, loop_rights, tail_rights}
use Rattle.vert_eval.specs.Values.{counts_of}
use Rattle.plain_run.specs.Views.{counts_in, members_at, members_in, scene_of}
use Rattle.plain_run.proofs.BlockLaws.{block_partials, block_reads, counts_after, dense_parts}
use Rattle.plain_run.proofs.dense.run_block.Goals as goal

pub run_lets-requires-clause-names : goal.run_lets-requires-clause-names
run_lets-requires-clause-names c =
    let counts = counts_in c.args.scene.now in
    let parts = dense_parts counts c.args.dense.now c.requires.placed in
    ap (lets_placed (counts_of c.args.env.now)) c.deref.ensures.value
    ∙ ap (λ k. lets_placed k c.args.dense.now.lets.items) c.requires.start ∙ parts.lets

pub run_loop-read-requires-clause-names : goal.run_loop-read-requires-clause-names
run_loop-read-requires-clause-names c =
    let counts = counts_in c.args.scene.now in
    let env = c.run_lets.new.env in
    let parts = dense_parts counts c.args.dense.now c.requires.placed in
    let now : counts_of env ≡ record counts { locals = length c.args.dense.now.lets.items } =
    counts_after c.args.env.now env counts (length c.deref.result.now) c.requires.start c.run_lets.ensures.counts
    ∙ ap (λ l. record counts { locals = length l }) c.deref.ensures.value in (
      loop_rights,
      ap (body_placed loop_rights (counts_of env)) c.deref-2.ensures.value
          ∙ ap (λ k. body_placed loop_rights k c.args.dense.now.body.items) now ∙ parts.body,
    )

pub run_body-requires-clause-names : goal.run_body-requires-clause-names
run_body-requires-clause-names c =
    let counts = counts_in c.args.scene.now in
    let env = c.run_loop-read.new.env in
    let parts = dense_parts counts c.args.dense.now c.requires.placed in
    let now : counts_of env ≡ record counts { locals = length c.args.dense.now.lets.items } =
    c.run_loop-read.ensures.kept.counts ∙ counts_after c.args.env.now c.run_lets.new.env counts
    (length c.deref.result.now) c.requires.start c.run_lets.ensures.counts
    ∙ ap (λ l. record counts { locals = length l }) c.deref.ensures.value in (
      tail_rights,
      ap (body_placed tail_rights (counts_of env)) c.deref-3.ensures.value
          ∙ ap (λ k. body_placed tail_rights k c.args.dense.now.tail.items) now ∙ parts.tail,
    )

pub returns-clause-emits : goal.returns-clause-emits
returns-clause-emits c =
    let scene = scene_of c.args.scene.now in
    let members = members_at c.args.scene.now c.args.v in
    block_partials scene c.args.dense.now members (members_in c.members_of.result) c.deref.result.now
    c.deref-2.result.now c.deref-3.result.now c.args.env.now c.run_lets.new.env c.deref.ensures.value
    c.deref-2.ensures.value c.members_of.ensures.members c.run_lets.ensures.value c.run_loop-read.new.env _ _ _
    c.deref-3.ensures.value c.run_lets.ensures.same.key c.run_loop-read.ensures.env
    c.run_loop-read.ensures.kept.key c.run_loop-read.ensures.emits c.run_body.ensures.emits

pub returns-clause-reads : goal.returns-clause-reads
returns-clause-reads c =
    let scene = scene_of c.args.scene.now in
    let members = members_at c.args.scene.now c.args.v in
    ap (λ l. map source (take c.run_loop-read.result l)) (sym c.members_of.ensures.members)
    ∙ block_reads scene c.args.dense.now members (members_in c.members_of.result) c.deref.result.now
    c.deref-2.result.now c.deref-3.result.now c.args.env.now c.run_lets.new.env c.deref.ensures.value
    c.deref-2.ensures.value c.members_of.ensures.members c.run_lets.ensures.value _ c.run_loop-read.ensures.reads
