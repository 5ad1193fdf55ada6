-- The mirrors of a half stand side by side.
use Rattle.std.proofs.Common.{ap, length, sym, subst, ◌∙◌, arith}
use Rattle.std.proofs.lemmas.List.{length-map}
use Rattle.vert_base.specs.Neighbours.{target}
use Rattle.chunk_split.specs.Chunks.{vertices_of}
use Rattle.symple_face.specs.Parts.{edges_between}
use Rattle.symple_face.specs.PartViews.{plain_of}
use Rattle.symple_face.proofs.ListLaws.{ends_met_few}
use Rattle.machine_parts.specs.Spans.{AreSpans, vertex_of}
use Rattle.machine_parts.proofs.SpanLaws.{spans_rise}
use Rattle.machine_steps.specs.Halves.{IsPlace}
use Rattle.machine_steps.proofs.PlaceLaws.{enough, known_list, length-slice, mirrors_stand, starts_before}
use Rattle.machine_steps.proofs.half.mirrors_of.Goals as goal

pub places-of_chunk-requires-clause-rises : goal.places-of_chunk-requires-clause-rises
places-of_chunk-requires-clause-rises c =
    let g = c.args.ground.now in
    let spans = c.deref-targets.result.now in
    let are = subst (AreSpans target (vertices_of g.part.cuts) g.part.scan.items) (sym c.deref-targets.ensures.value)
    g.grouped.targets in
    spans_rise target (vertices_of g.part.cuts) g.part.scan.items spans are

pub places-of_half-requires-clause-rises : goal.places-of_half-requires-clause-rises
places-of_half-requires-clause-rises c =
    let g = c.args.ground.now in
    let spans = c.deref-targets.result.now in
    let are = subst (AreSpans target (vertices_of g.part.cuts) g.part.scan.items) (sym c.deref-targets.ensures.value)
    g.grouped.targets in
    spans_rise target (vertices_of g.part.cuts) g.part.scan.items spans are

pub overflow_sub-first : goal.overflow_sub-first
overflow_sub-first c =
    let g = c.args.ground.now in
    let spans = c.deref-targets.result.now in
    let are = subst (AreSpans target (vertices_of g.part.cuts) g.part.scan.items) (sym c.deref-targets.ensures.value)
    g.grouped.targets in
    let from = subst (λ x. IsPlace x spans c.places-of_chunk.result.0) c.start.ensures c.places-of_chunk.ensures.first
    in
    let to = subst (λ x. IsPlace x spans c.places-of_chunk.result.1) c.end.ensures.value
    c.places-of_chunk.ensures.last in
    starts_before (plain_of g.part) c.args.chunk c.args.range spans c.places-of_chunk.result.0
    c.places-of_chunk.result.1
    c.places-of_half.result.0 c.places-of_half.result.1 g.part.whole are from to c.places-of_half.ensures.first
    c.places-of_half.ensures.last c.requires.first c.requires.rises c.requires.last

pub split_at-requires : goal.split_at-requires
split_at-requires c =
    let g = c.args.ground.now in
    let spans = c.deref-targets.result.now in
    let are = subst (AreSpans target (vertices_of g.part.cuts) g.part.scan.items) (sym c.deref-targets.ensures.value)
    g.grouped.targets in
    let from = subst (λ x. IsPlace x spans c.places-of_chunk.result.0) c.start.ensures c.places-of_chunk.ensures.first
    in
    let to = subst (λ x. IsPlace x spans c.places-of_chunk.result.1) c.end.ensures.value
    c.places-of_chunk.ensures.last in
    let most = enough (plain_of g.part) c.args.chunk c.args.range spans c.places-of_chunk.result.0
    c.places-of_chunk.result.1
    c.places-of_half.result.0 c.places-of_half.result.1 g.part.whole are from to c.places-of_half.ensures.first
    c.places-of_half.ensures.last c.requires.first c.requires.rises c.requires.last in
    let size = c.degrees.ensures.each ∙ ap length (known_list (plain_of g.part) c.args.chunk c.requires.other) in
    omega (arith, most, size)

pub split_at-requires-2 : goal.split_at-requires-2
split_at-requires-2 c =
    let g = c.args.ground.now in
    let spans = c.deref-targets.result.now in
    let are = subst (AreSpans target (vertices_of g.part.cuts) g.part.scan.items) (sym c.deref-targets.ensures.value)
    g.grouped.targets in
    let from = subst (λ x. IsPlace x spans c.places-of_chunk.result.0) c.start.ensures c.places-of_chunk.ensures.first
    in
    let to = subst (λ x. IsPlace x spans c.places-of_chunk.result.1) c.end.ensures.value
    c.places-of_chunk.ensures.last in
    let most = enough (plain_of g.part) c.args.chunk c.args.range spans c.places-of_chunk.result.0
    c.places-of_chunk.result.1
    c.places-of_half.result.0 c.places-of_half.result.1 g.part.whole are from to c.places-of_half.ensures.first
    c.places-of_half.ensures.last c.requires.first c.requires.rises c.requires.last in
    let size = c.degrees.ensures.each ∙ ap length (known_list (plain_of g.part) c.args.chunk c.requires.other) in
    omega (arith, most, size, c.split_at.ensures.back_len)

pub returns-clause-mirrors : goal.returns-clause-mirrors
returns-clause-mirrors c =
    let g = c.args.ground.now in
    let spans = c.deref-targets.result.now in
    let are = subst (AreSpans target (vertices_of g.part.cuts) g.part.scan.items) (sym c.deref-targets.ensures.value)
    g.grouped.targets in
    let from = subst (λ x. IsPlace x spans c.places-of_chunk.result.0) c.start.ensures c.places-of_chunk.ensures.first
    in
    let to = subst (λ x. IsPlace x spans c.places-of_chunk.result.1) c.end.ensures.value
    c.places-of_chunk.ensures.last in
    mirrors_stand (plain_of g.part) c.args.chunk c.args.range spans c.places-of_chunk.result.0
    c.places-of_chunk.result.1
    c.places-of_half.result.0 c.places-of_half.result.1 g.part.whole are from to c.places-of_half.ensures.first
    c.places-of_half.ensures.last c.requires.first c.requires.rises c.requires.last
    c.degrees.result.now c.split_at.result.1.now c.split_at-2.result.0.now c.requires.other c.degrees.ensures
    c.split_at.ensures.back c.split_at-2.ensures.front

pub invariant_of-result : goal.invariant_of-result
invariant_of-result c =
    let g = c.args.ground.now in
    let spans = c.deref-targets.result.now in
    let are = subst (AreSpans target (vertices_of g.part.cuts) g.part.scan.items) (sym c.deref-targets.ensures.value)
    g.grouped.targets in
    let from = subst (λ x. IsPlace x spans c.places-of_chunk.result.0) c.start.ensures c.places-of_chunk.ensures.first
    in
    let to = subst (λ x. IsPlace x spans c.places-of_chunk.result.1) c.end.ensures.value
    c.places-of_chunk.ensures.last in
    let most = enough (plain_of g.part) c.args.chunk c.args.range spans c.places-of_chunk.result.0
    c.places-of_chunk.result.1
    c.places-of_half.result.0 c.places-of_half.result.1 g.part.whole are from to c.places-of_half.ensures.first
    c.places-of_half.ensures.last c.requires.first c.requires.rises c.requires.last in
    let size = c.degrees.ensures.each ∙ ap length (known_list (plain_of g.part) c.args.chunk c.requires.other) in
    let count = length-slice spans c.places-of_half.result.0 c.places-of_half.result.1
    c.places-of_half.ensures.last.within in
    let mirrors = mirrors_stand (plain_of g.part) c.args.chunk c.args.range spans c.places-of_chunk.result.0
    c.places-of_chunk.result.1 c.places-of_half.result.0 c.places-of_half.result.1 g.part.whole are from to
    c.places-of_half.ensures.first c.places-of_half.ensures.last c.requires.first c.requires.rises c.requires.last
    c.degrees.result.now c.split_at.result.1.now c.split_at-2.result.0.now c.requires.other c.degrees.ensures
    c.split_at.ensures.back c.split_at-2.ensures.front in
    let few = ends_met_few target (vertices_of g.part.cuts)
    (edges_between g.part.cuts g.part.at.machine c.args.chunk g.part.scan.items) in
    record {
      each = mirrors.known.each ∙ length-map _ vertex_of;
      few = omega (arith, most, count, few, g.part.whole.within);
    }
