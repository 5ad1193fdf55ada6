-- What a scan of a half leaves is what the state of the machine says.
use Rattle.std.proofs.Common.{◌≡◌, None, ap, length, replicate, sym, subst, ◌∙◌, arith}
use Rattle.vert_base.specs.Neighbours.{target}
use Rattle.vert_base.specs.Ends.{start_of}
use Rattle.std.proofs.lemmas.List.{length-map}
use Rattle.symple_face.specs.CoreDense.{needed_dep}
use Rattle.symple_face.specs.Shapes.{size_of}
use Rattle.vert_tree.proofs.TypedLaws.{few_slots, few_totals}
use Rattle.machine_parts.specs.Spans.{IsSpan, vertex_of}
use Rattle.symple_face.specs.CoreSight.{field_count, program_of, targets_of}
use Rattle.symple_face.specs.PartViews.{plain_of}
use Rattle.std.specs.List.{All}
use Rattle.machine_steps.specs.Halves.{AreReceived, IsHalfScan, needed_body}
use Rattle.machine_steps.proofs.ScanToldLaws.{Given, dep_is, few_are, given_to, have_places, ids_are, none_is, reads_are, update_is, written}
use Rattle.machine_steps.proofs.scanning.scan_half.Goals as goal

pub new_env-requires-clause-slots : goal.new_env-requires-clause-slots
new_env-requires-clause-slots c =
    let p = c.args.ground.now.part.split.value.program in
    let few = few_slots p.program p.typed in
    omega (arith, few, c.setting.ensures.slots)

pub new_env-requires-clause-totals : goal.new_env-requires-clause-totals
new_env-requires-clause-totals c =
    let p = c.args.ground.now.part.split.value.program in
    let few = few_totals p.program p.typed in
    omega (arith, few, c.requires.totals)

pub tell_mirrors-requires-clause-spans : goal.tell_mirrors-requires-clause-spans
tell_mirrors-requires-clause-spans c =
    subst (λ edges. All (IsSpan target edges) c.mirrors_of-mirrors.result.spans.now)
    (sym c.own_of-own.ensures.edges) c.mirrors_of-mirrors.ensures.mirrors.each

pub tell_mirrors-requires-clause-placed : goal.tell_mirrors-requires-clause-placed
tell_mirrors-requires-clause-placed c =
    have_places c.half_of-range.result (targets_of (plain_of c.args.ground.now.part))
    c.mirrors_of-mirrors.result.spans.now _ c.mirrors_of-mirrors.ensures.mirrors.vertices
    c.in_ok-states.ensures.states.count

pub returns : goal.returns
returns c = λ s shows.
    let part = plain_of c.args.ground.now.part in
    let split = c.args.ground.now.part.split.value in
    let b = c.loop_of-body.result in
    let o = c.own_of-own.result in
    let m = c.mirrors_of-mirrors.result in
    let mirrors = c.mirrors_of-mirrors.ensures.mirrors in
    let range = c.half_of-range.result in
    let h = c.half_of-range.ensures in
    let env = c.new_visit-visit.result.env in
    let made = c.new_visit-visit.ensures in
    let states = c.in_ok-states.states.states in
    let after = c.in_ok-tell_mirrors.ensures in
    let counts = c.tell_mirrors.new.counts in
    let facts : Given (plain_of c.args.ground.now.part) c.args.ground.now.part.split.value c.args.totals.now
    c.args.rows.now.rows c.args.round c.args.step c.args.half c.loop_of-body.result.dense.now c.chunk_at-chunk.result
    c.half_of-range.result c.args.ground.now.groups.targets.items c.mirrors_of-mirrors.result.spans.now
    c.mirrors_of-mirrors.result.degrees.now c.own_of-own.result.degrees.now c.mirrors_of-mirrors.result.first
    c.new_visit-visit.result.env = record {
      is = c.args.ground.now.part.whole;
      ends = c.args.ground.now.can.ends;
      place = c.args.ground.now.can.place;
      block = sym (ap (λ q. (program_of q).dense) c.loop_of-body.ensures) ∙ b.is.block;
      count = c.requires.count;
      near = c.own_of-own.ensures.degrees;
      groups = c.args.ground.now.grouped.targets;
      chunk_is = c.chunk_at-chunk.ensures.chunk;
      range_is = h.half;
      within = c.chunk_at-chunk.ensures.below;
      other = c.chunk_at-chunk.ensures.other c.requires.step;
      mirrors = mirrors;
      low = h.first;
      high = h.last;
      most = h.most;
      n = ap (λ e. e.n) made ∙ c.new_env.ensures.n ∙ c.setting.ensures.vertices;
      round = ap (λ e. e.round) made ∙ c.new_env.ensures.round ∙ c.setting.ensures.round;
      draws = ap (λ e. e.draws) made ∙ c.new_env.ensures.draws ∙ c.setting.ensures.draws;
      totals = ap (λ e. e.totals.items) made ∙ c.new_env.ensures.totals;
      slots = ap (λ e. e.slots.items) made ∙ c.new_env.ensures.slots
          ∙ ap (λ n. replicate n None) c.setting.ensures.slots ∙ none_is split;
    } in
    let given = given_to part split c.args.totals.now c.args.rows.now.rows c.args.round c.args.step c.args.half
    b.dense.now c.chunk_at-chunk.result range c.args.ground.now.groups.targets.items m.spans.now m.degrees.now
    o.degrees.now m.first env s shows.shown facts in
    let bs = c.loop_of-body.ensures ∙ sym shows.shown.split in
    let es = c.own_of-own.ensures.edges ∙ ap (λ p. p.scan) (sym shows.shown.part) in
    let os = c.own_of-own.ensures.start ∙ ap (λ p. start_of p.ends p.at.machine) (sym shows.shown.part) in
    let ts = ap (λ t. t.rows) c.own_of-own.ensures.rows ∙ sym shows.shown.rows in
    let ws = ap (λ t. t.width) c.own_of-own.ensures.rows ∙ c.requires.fields
    ∙ ap field_count (sym shows.shown.split) in
    let rs = c.mirrors_of-mirrors.ensures.refresh ∙ sym shows.told in
    let came = subst (λ q. AreReceived q (size_of range) (needed_body s (needed_dep s c.args.round c.args.step
    c.args.half)) states) bs
    (subst (λ body. AreReceived b.split.now (size_of range) body states) (sym shows.carried)
    c.in_ok-states.ensures.states) in
    let told = update_is s c.args.round c.args.step c.args.half b.dense.now c.chunk_at-chunk.result range
    c.args.ground.now.groups.targets.items m.spans.now m.degrees.now o.degrees.now m.first env given b.split.now bs
    c.from.result c.from.ensures o.edges.now es o.start os o.rows.now ts ws m.refresh.now rs states came
    c.in_ok-update.update.items c.tell_mirrors.new.update.items c.in_ok-update.ensures.items after.told in
    let dep = dep_is s c.args.round c.args.step c.args.half b.dense.now c.chunk_at-chunk.result range
    c.args.ground.now.groups.targets.items m.spans.now m.degrees.now o.degrees.now m.first env given b.split.now bs
    c.from.result c.from.ensures o.edges.now es o.start os o.rows.now ts ws m.refresh.now rs states came
    c.tell_mirrors.new.half.states (λ x near far. ap (λ t. t.states) (after.scanned x near far).states) in
    let reads = reads_are s c.args.round c.args.step c.args.half b.dense.now c.chunk_at-chunk.result range
    c.args.ground.now.groups.targets.items m.spans.now m.degrees.now o.degrees.now m.first env given b.split.now bs
    c.from.result c.from.ensures o.edges.now es o.start os o.rows.now ts ws m.refresh.now rs states came
    c.tell_mirrors.new.counts (λ x near far. (after.scanned x near far).reads) in
    let ids = ids_are s c.args.round c.args.step c.args.half b.dense.now c.chunk_at-chunk.result range
    c.args.ground.now.groups.targets.items m.spans.now m.degrees.now o.degrees.now m.first env given b.split.now bs
    c.from.result c.from.ensures o.edges.now es o.start os o.rows.now ts ws m.refresh.now rs states came in
    let size : length c.tell_mirrors.new.counts ≡ length c.mirrors_of-mirrors.result.spans.now =
    omega (arith, c.tell_mirrors.auto.counts, ap length c.deref_mut.ensures.value, c.in_ok-counts.ensures) in
    let few = few_are s c.args.round c.args.step c.args.half b.dense.now c.chunk_at-chunk.result range
    c.args.ground.now.groups.targets.items m.spans.now m.degrees.now o.degrees.now m.first env given b.split.now bs
    c.from.result c.from.ensures o.edges.now es o.start os o.rows.now ts ws m.refresh.now rs states came
    c.tell_mirrors.new.counts after.within size in
    let length' : c.in_ok-counts.counts.len ≡ length c.in_ok-counts.counts.items =
    omega (arith, c.deref_mut.ensures.len, ap length c.deref_mut.ensures.value) in
    let whole = written c.in_ok-counts.counts.len c.in_ok-counts.counts.items c.tell_mirrors.new.counts
    (omega (arith, c.tell_mirrors.auto.counts, ap length c.deref_mut.ensures.value)) length' in
    subst (IsHalfScan s c.args.round c.args.step c.args.half c.in_ok-spell.field-0.items
    c.tell_mirrors.new.update.items) (sym whole) (record {
      dep = c.in_ok-spell.ensures ∙ dep;
      told = told;
      each = size ∙ sym (length-map m.spans.now vertex_of) ∙ ap length ids;
      reads = reads;
      few = few;
    })
