-- What is noted is what the state of the machine says.
use Rattle.std.proofs.Common.{◌≤◌, ap, length, subst, sym, ◌∙◌, arith}
use Rattle.std.specs.Prelude.{slice_index}
use Rattle.std.proofs.lemmas.List.{length-map}
use Rattle.vert_base.specs.Neighbours.{target}
use Rattle.chunk_split.specs.Chunks.{vertices_of}
use Rattle.circulant_plan.specs.Ring.{chunk_of}
use Rattle.symple_face.specs.CoreSight.{targets_of, those_within}
use Rattle.symple_face.specs.PartViews.{plain_of}
use Rattle.symple_face.specs.Shapes.{half_in}
use Rattle.machine_parts.specs.Spans.{AreSpans, vertex_of}
use Rattle.machine_parts.proofs.SpanLaws.{spans_rise}
use Rattle.work_laws.specs.Sound.{members_in}
use Rattle.machine_steps.proofs.NoteLaws.{IsNoted, counts_stay, half_size, noted_is}
use Rattle.machine_steps.proofs.noting.note_counts.Goals as goal

pub places-place-requires-clause-rises : goal.places-place-requires-clause-rises
places-place-requires-clause-rises c =
    let g = c.args.ground.now in
    spans_rise target (vertices_of g.part.cuts) g.part.scan.items c.deref.result.now
    (subst (AreSpans target (vertices_of g.part.cuts) g.part.scan.items) (sym c.deref.ensures.value) g.grouped.targets)

pub write_counts-requires : goal.write_counts-requires
write_counts-requires c =
    let g = c.args.ground.now in
    let part = plain_of g.part in
    let spans = c.deref.result.now in
    let range = c.half_of-range.result in
    let a = c.places-place.result.0 in
    let b = c.places-place.result.1 in
    let place = c.places-place.ensures in
    let are = subst (AreSpans target (vertices_of g.part.cuts) g.part.scan.items) (sym c.deref.ensures.value)
    g.grouped.targets in
    let half = c.half_of-range.ensures.half ∙ ap (λ k. half_in g.part.cuts k c.args.half) c.chunk_at.ensures.chunk in
    let each = c.requires.each ∙ ap (λ r. length (those_within r (targets_of part))) (sym half) in
    let size = half_size part range spans a b are place.first place.last place.order in
    let all = ap length (sym are.vertices) ∙ length-map spans vertex_of in
    omega (arith, each, size, all, c.requires.read.each, place.last.within, place.order)

pub returns-clause-counts : goal.returns-clause-counts
returns-clause-counts c =
    let g = c.args.ground.now in
    let part = plain_of g.part in
    let spans = c.deref.result.now in
    let range = c.half_of-range.result in
    let a = c.places-place.result.0 in
    let b = c.places-place.result.1 in
    let place = c.places-place.ensures in
    let are = subst (AreSpans target (vertices_of g.part.cuts) g.part.scan.items) (sym c.deref.ensures.value)
    g.grouped.targets in
    let half = c.half_of-range.ensures.half ∙ ap (λ k. half_in g.part.cuts k c.args.half) c.chunk_at.ensures.chunk in
    let each = c.requires.each ∙ ap (λ r. length (those_within r (targets_of part))) (sym half) in
    let noted : IsNoted c.args.reading.now.items c.write_counts.new.reading.items c.args.counts.now
    c.places-place.result.0 = record {
      size = c.write_counts.ensures.count;
      before = c.write_counts.ensures.before;
      within = c.write_counts.ensures.within;
      behind = c.write_counts.ensures.behind;
    } in
    counts_stay part range spans a b are place.first place.last place.order c.args.reading.now.items
    c.write_counts.new.reading.items c.args.counts.now noted c.requires.read each
    (λ i lt. subst (λ r. slice_index c.args.counts.now i ≤ length (members_in part (slice_index (those_within r
    (targets_of part)) i))) (sym half) (c.requires.few i lt))

pub returns-clause-noted : goal.returns-clause-noted
returns-clause-noted c = λ s round states update same held scan.
    let g = c.args.ground.now in
    let part = plain_of g.part in
    let spans = c.deref.result.now in
    let range = c.half_of-range.result in
    let a = c.places-place.result.0 in
    let b = c.places-place.result.1 in
    let place = c.places-place.ensures in
    let are = subst (AreSpans target (vertices_of g.part.cuts) g.part.scan.items) (sym c.deref.ensures.value)
    g.grouped.targets in
    let half = c.half_of-range.ensures.half ∙ ap (λ k. half_in g.part.cuts k c.args.half) c.chunk_at.ensures.chunk in
    let each = c.requires.each ∙ ap (λ r. length (those_within r (targets_of part))) (sym half) in
    let noted : IsNoted c.args.reading.now.items c.write_counts.new.reading.items c.args.counts.now
    c.places-place.result.0 = record {
      size = c.write_counts.ensures.count;
      before = c.write_counts.ensures.before;
      within = c.write_counts.ensures.within;
      behind = c.write_counts.ensures.behind;
    } in
    noted_is part range spans a b are place.first place.last place.order c.args.reading.now.items
    c.write_counts.new.reading.items c.args.counts.now noted c.requires.read each s round c.args.step c.args.half same
    (ap (λ p. half_in p.ends (chunk_of p.at.machine c.args.step p.at.machines) c.args.half) same ∙ sym half) held
    scan.reads
