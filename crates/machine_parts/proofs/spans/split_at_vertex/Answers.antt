-- A search by halves finds where the vertices reach a number.
use Rattle.std.proofs.Common.{◌∙◌, rules, of_calls}
use Rattle.std.specs.Prelude.{nat_le, nat_lt}
use Rattle.std.proofs.lemmas.Fn.{always_returns_same}
use Rattle.machine_parts.specs.declared.spans.Span.{Span}
use Rattle.machine_parts.specs.Spans.{vertex_of}
use Rattle.machine_parts.proofs.SpanLaws.{failing_last, no_span, not_below, passing_first, stand_in_front}
use Rattle.machine_parts.proofs.spans.split_at_vertex.Goals as goal

pub returns-clause-below : goal.returns-clause-below
returns-clause-below c =
    let v = c.args.vertex in
    let spans = c.args.spans.now in
    let point = c.partition_point-count.ensures.partitioned (λ (s : Span). nat_lt (vertex_of s) c.args.vertex)
    (always_returns_same _ _ _ (λ a r f k. search (rules, of_calls))) (stand_in_front v spans c.requires) in
    c.split_at.ensures.front
    ∙ passing_first (λ (s : Span). nat_lt (vertex_of s) v) (λ (s : Span). nat_le v (vertex_of s)) spans
    c.partition_point-count.result no_span
    c.partition_point-count.ensures.bound point (λ s. not_below (vertex_of s) v)

pub returns-clause-others : goal.returns-clause-others
returns-clause-others c =
    let v = c.args.vertex in
    let spans = c.args.spans.now in
    let point = c.partition_point-count.ensures.partitioned (λ (s : Span). nat_lt (vertex_of s) c.args.vertex)
    (always_returns_same _ _ _ (λ a r f k. search (rules, of_calls))) (stand_in_front v spans c.requires) in
    c.split_at.ensures.back
    ∙ failing_last (λ (s : Span). nat_lt (vertex_of s) v) (λ (s : Span). nat_le v (vertex_of s)) spans
    c.partition_point-count.result no_span
    c.partition_point-count.ensures.bound point (λ s. not_below (vertex_of s) v)
