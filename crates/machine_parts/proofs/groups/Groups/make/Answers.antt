-- The edges of a part are in order.
use Rattle.std.proofs.Common.{List, map, subst, ap, ◌∙◌}
use Rattle.vert_base.specs.declared.graph.Edge.{Edge}
use Rattle.vert_base.specs.Neighbours.{in_order, source, target}
use Rattle.chunk_split.specs.Chunks.{vertices_of}
use Rattle.machine_parts.specs.Spans.{AreSpans}
use Rattle.machine_parts.proofs.SpanLaws.{ordered, ordered_below}
use Rattle.machine_parts.proofs.groups.Groups.make.Goals as goal

pub spans_of-requires-clause-order : goal.spans_of-requires-clause-order
spans_of-requires-clause-order c =
    let part = c.args.part.now in
    let n = vertices_of part.cuts in
    ordered target n (in_order source n part.scan.items) c.deref.result.now
    (c.deref.ensures.value ∙ part.whole.scan_order)

pub spans_of-requires-2-clause-order : goal.spans_of-requires-2-clause-order
spans_of-requires-2-clause-order c =
    let part = c.args.part.now in
    let n = vertices_of part.cuts in
    ordered source n (in_order target n part.push.items) c.deref-2.result.now
    (c.deref-2.ensures.value ∙ part.whole.push_order)

pub returns : goal.returns
returns c =
    let part = c.args.part.now in
    let n = vertices_of part.cuts in
    let scan = c.deref.ensures.value ∙ part.whole.scan_order in
    let push = c.deref-2.ensures.value ∙ part.whole.push_order in
    record {
      targets = subst (λ (es : List Edge). AreSpans target n es c.in_ok-spans_of.field-0.items) c.deref.ensures.value
          (c.in_ok-spans_of.ensures n (ordered_below target n (in_order source n part.scan.items) c.deref.result.now
          scan));
      senders = subst (λ (es : List Edge). AreSpans source n es c.in_ok-spans_of-2.field-0.items)
          c.deref-2.ensures.value
          (c.in_ok-spans_of-2.ensures n (ordered_below source n (in_order target n part.push.items) c.deref-2.result.now
          push));
      sources = c.in_ok-sources_of.ensures ∙ ap (map source) c.deref-3.ensures.value;
    }
