-- The targets of a range stand side by side.
use Rattle.std.proofs.Common.{ap, sym, subst, ◌∙◌, ◌-◌, drop}
use Rattle.std.proofs.lemmas.List.Elements.{All-drop, All-take}
use Rattle.vert_base.specs.Neighbours.{target}
use Rattle.chunk_split.specs.Chunks.{vertices_of}
use Rattle.symple_face.specs.CoreSight.{those_within}
use Rattle.machine_parts.specs.Spans.{AreSpans, IsSpan}
use Rattle.machine_parts.proofs.SpanLaws.{spans_rise}
use Rattle.machine_steps.proofs.PlaceLaws.{vertices_between}
use Rattle.machine_steps.proofs.keeping.spans_in.Goals as goal

pub places-place-requires-clause-rises : goal.places-place-requires-clause-rises
places-place-requires-clause-rises c =
    let g = c.args.ground.now in
    spans_rise target (vertices_of g.part.cuts) g.part.scan.items c.deref-targets.result.now
    (subst (AreSpans target (vertices_of g.part.cuts) g.part.scan.items) (sym c.deref-targets.ensures.value)
    g.grouped.targets)

pub returns-clause-vertices : goal.returns-clause-vertices
returns-clause-vertices c =
    let g = c.args.ground.now in
    let place = c.places-place.ensures in
    let are = subst (AreSpans target (vertices_of g.part.cuts) g.part.scan.items)
    (sym c.deref-targets.ensures.value) g.grouped.targets in
    vertices_between c.args.range.0 c.args.range.1 c.deref-targets.result.now c.places-place.result.0
    c.places-place.result.1 place.first place.last place.order
    ∙ ap (those_within c.args.range) are.vertices

pub returns-clause-each : goal.returns-clause-each
returns-clause-each c =
    let g = c.args.ground.now in
    let spans = c.deref-targets.result.now in
    let are = subst (AreSpans target (vertices_of g.part.cuts) g.part.scan.items)
    (sym c.deref-targets.ensures.value) g.grouped.targets in
    let a = c.places-place.result.0 in
    All-take (IsSpan target g.part.scan.items) (c.places-place.result.1 - a) (drop a spans)
    (All-drop (IsSpan target g.part.scan.items) a spans are.each)
