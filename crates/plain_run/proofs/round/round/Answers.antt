use Rattle.std.proofs.Common.{◌≡◌, ◌≤◌, [], length, map, take, sym, ap, subst, ◌∙◌, arith, ◌∷◌}
use Rattle.std.specs.List.{range_with_len}
use Rattle.std.proofs.Math.ListN.{length-map}
use Rattle.std.proofs.lemmas.List.Elements.{All-append, All-cons, All-nil}
use Rattle.vert_base.specs.declared.value.Row.{Row}
use Rattle.vert_base.specs.Neighbours.{source}
use Rattle.slot_merge.proofs.SlotLaws.{length-slot_values}
use Rattle.vert_eval.specs.Rounds.{env_at, gathered, row_after, slot_ops, updated}
use Rattle.plain_run.specs.Lists.{id_lists_of}
use Rattle.plain_run.specs.Told.{kept_reads, read_in}
use Rattle.plain_run.specs.Views.{AreWide, members_at, program_of, scene_of}
use Rattle.plain_run.proofs.EnvLaws.{one_more}
use Rattle.plain_run.proofs.KeptLaws.{kept_more, read_more}
use Rattle.plain_run.proofs.round.round.Goals as goal

pub overflow_add-read : goal.overflow_add-read
overflow_add-read c =
    let few : c.gather-count.result ≤ 8388608 =
    omega (
      arith,
      c.gather-count.ensures.within,
      ap length c.members_of-members.ensures.members,
      c.members_of-members.ensures.few,
    ) in
    omega (arith, few, c.loop-v.invariant.few, c.vertices-vertices.ensures.within)

pub updated_row-requires-clause-slots : goal.updated_row-requires-clause-slots
updated_row-requires-clause-slots c =
    let program = program_of c.args.scene.now in
    sym (length-map c.gather-count.new.desk.emits.slots.items (λ p. p.value))
    ∙ ap length c.gather-count.ensures.values
    ∙ length-slot_values 0 (slot_ops program)
    (gathered program c.args.ruling (scene_of c.args.scene.now) c.loop-v.v).emitted
    ∙ length-map program.slots.items (λ s. s.op)

pub loop-v-preserved : goal.loop-v-preserved
loop-v-preserved c =
    let program = program_of c.args.scene.now in
    let scene = scene_of c.args.scene.now in
    let ruling = c.args.ruling in
    let l = c.loop-v in
    let count = c.gather-count.result in
    let fields = length program.fields.items in
    let row = c.updated_row.result in
    let here = c.updated_row.ensures.row ∙ ap (λ vs. updated program.update.items (env_at scene l.v vs))
    c.gather-count.ensures.values in
    let read = ap (λ ms. map source (take count ms)) c.members_of-members.ensures.members
    ∙ c.gather-count.ensures.reads in
    let wide : Row → Type 0 = λ r. length r.words.items ≡ fields in
    let few : count ≤ 8388608 = omega (
      arith,
      c.gather-count.ensures.within,
      ap length c.members_of-members.ensures.members,
      c.members_of-members.ensures.few,
    ) in
    record {
      rows = one_more (row_after program ruling scene) l.v l.rows.items c.push.new.self.items row l.invariant.rows
          here c.in_ok-push.ensures.items;
      read = read_more (λ v. (gathered program ruling scene v).reads) l.v l.read _ count
          (members_at c.args.scene.now l.v) l.invariant.read c.gather-count.ensures.within
          c.gather-count.ensures.reads (omega arith);
      few = omega (arith, few, l.invariant.few);
      reads = kept_more c.args.kept (λ v. (gathered program ruling scene v).reads) l.v (id_lists_of l.reads)
          (id_lists_of c.keep.new.reads) _ l.invariant.reads read c.in_ok-keep.ensures;
      wide = subst (AreWide fields) (sym c.in_ok-push.ensures.items)
          (All-append wide l.rows.items (row ∷ []) l.invariant.wide
          (All-cons wide row [] c.updated_row.ensures.wide (All-nil wide)));
    }

pub returns-clause-rows : goal.returns-clause-rows
returns-clause-rows c =
    let l = c.loop-v in
    let ended : l.v ≡ c.args.scene.now.graph.now.vertices = omega arith in
    l.invariant.rows ∙ ap (λ n. map (row_after (program_of c.args.scene.now) c.args.ruling
    (scene_of c.args.scene.now)) (range_with_len 0 n)) ended

pub returns-clause-read : goal.returns-clause-read
returns-clause-read c =
    let l = c.loop-v in
    let ended : l.v ≡ c.args.scene.now.graph.now.vertices = omega arith in
    l.invariant.read ∙ ap (λ n. read_in (map (λ v.
    (gathered (program_of c.args.scene.now) c.args.ruling (scene_of c.args.scene.now) v).reads)
    (range_with_len 0 n))) ended

pub returns-clause-reads : goal.returns-clause-reads
returns-clause-reads c =
    let l = c.loop-v in
    let ended : l.v ≡ c.args.scene.now.graph.now.vertices = omega arith in
    l.invariant.reads ∙ ap (λ n. kept_reads c.args.kept
    (map (λ v. (gathered (program_of c.args.scene.now) c.args.ruling (scene_of c.args.scene.now) v).reads)
    (range_with_len 0 n))) ended
