use Rattle.std.proofs.Common.{◌≡◌, ◌<◌, ◌∙◌, ap, sym, subst, length, map, arith, List}
use Rattle.std.specs.Prelude.{slice_index_or}
use Rattle.std.proofs.lemmas.List.{length-map}
use Rattle.chunk_split.specs.Chunks.{vertices_of}
use Rattle.vert_base.specs.Neighbours.{source, target}
use Rattle.vert_base.specs.declared.graph.VertexId.{VertexId}
use Rattle.symple_face.specs.PartViews.{plain_of}
use Rattle.machine_parts.specs.declared.spans.Span.{Span}
use Rattle.machine_parts.specs.Spans.{AreSpans, IsSpan, vertex_of}
use Rattle.machine_parts.proofs.SpanLaws.{no_span, spans_rise}
use Rattle.machine_steps.specs.Counts.{first_read}
use Rattle.machine_steps.proofs.ReadingLaws.{above, count_fits, reads_here, reads_none}
use Rattle.machine_steps.proofs.reading.sources_read.Goals as goal

pub place_of-place-requires : goal.place_of-place-requires
place_of-place-requires c =
    let part = plain_of c.args.ground.now.part in
    let are : AreSpans target (vertices_of part.ends) part.scan c.deref-targets.result.now =
    subst (λ (ss : List Span). AreSpans target (vertices_of part.ends) part.scan ss)
    (sym c.deref-targets.ensures.value) c.args.ground.now.grouped.targets in
    spans_rise target (vertices_of part.ends) part.scan c.deref-targets.result.now are

pub returns-then-place-targets : goal.returns-then-place-targets
returns-then-place-targets c =
    let part = plain_of c.args.ground.now.part in
    let spans = c.deref-targets.result.now in
    let place = c.place_of-place.result in
    let are : AreSpans target (vertices_of part.ends) part.scan spans =
    subst (λ (ss : List Span). AreSpans target (vertices_of part.ends) part.scan ss)
    (sym c.deref-targets.ensures.value) c.args.ground.now.grouped.targets in
    let past = c.if-place-targets.true in
    sym (reads_none part c.args.counts.now c.requires spans are place c.args.v.0 c.place_of-place.ensures.below
    c.place_of-place.ensures.others (spans_rise target (vertices_of part.ends) part.scan spans are)
    (λ lt. absurd (omega arith)))

pub returns-then-span-v : goal.returns-then-span-v
returns-then-span-v c =
    let part = plain_of c.args.ground.now.part in
    let spans = c.deref-targets.result.now in
    let place = c.place_of-place.result in
    let are : AreSpans target (vertices_of part.ends) part.scan spans =
    subst (λ (ss : List Span). AreSpans target (vertices_of part.ends) part.scan ss)
    (sym c.deref-targets.ensures.value) c.args.ground.now.grouped.targets in
    let v = c.args.v.0 in
    let high = c.place_of-place.ensures.others in
    let other = c.if-span-v.true in
    sym (reads_none part c.args.counts.now c.requires spans are place v c.place_of-place.ensures.below
    c.place_of-place.ensures.others (spans_rise target (vertices_of part.ends) part.scan spans are)
    (λ lt. above v (vertex_of (slice_index_or spans place no_span)) (high place (omega arith) lt) other))

pub first_sources-requires : goal.first_sources-requires
first_sources-requires c =
    let part = plain_of c.args.ground.now.part in
    let spans = c.deref-targets.result.now in
    let place = c.place_of-place.result in
    let are : AreSpans target (vertices_of part.ends) part.scan spans =
    subst (λ (ss : List Span). AreSpans target (vertices_of part.ends) part.scan ss)
    (sym c.deref-targets.ensures.value) c.args.ground.now.grouped.targets in
    let here : place < length spans = c.if-place-targets.false in
    let is : IsSpan target part.scan (slice_index_or spans place no_span) = are.each place no_span here in
    let within = is.within in
    let edges = sym (length-map c.args.ground.now.groups.sources.items (λ (u : VertexId). u.0))
    ∙ ap length c.args.ground.now.grouped.sources ∙ length-map part.scan source in
    let all = ap length c.deref.ensures.value in
    record { count = count_fits part c.args.counts.now c.requires spans are place here; within = omega arith }

pub returns : goal.returns
returns c =
    let part = plain_of c.args.ground.now.part in
    let spans = c.deref-targets.result.now in
    let place = c.place_of-place.result in
    let span : Span = slice_index_or spans place no_span in
    let are : AreSpans target (vertices_of part.ends) part.scan spans =
    subst (λ (ss : List Span). AreSpans target (vertices_of part.ends) part.scan ss)
    (sym c.deref-targets.ensures.value) c.args.ground.now.grouped.targets in
    let here : place < length spans = c.if-place-targets.false in
    let same : map (λ (u : VertexId). u.0) c.deref.result.now ≡ map source part.scan =
    ap (map (λ (u : VertexId). u.0)) c.deref.ensures.value ∙ c.args.ground.now.grouped.sources in
    c.first_sources.ensures part.scan (are.each place no_span here) same
    ∙ ap (λ v. first_read part v (slice_index_or c.args.counts.now place 0)) c.if-span-v.false
    ∙ sym (reads_here part c.args.counts.now c.requires spans are place c.args.v.0 c.place_of-place.ensures.below
    c.place_of-place.ensures.others here c.if-span-v.false)
