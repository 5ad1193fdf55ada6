-- A search by halves finds where the vertices reach a number.
use Rattle.std.proofs.Common.{◌≡◌, ◌<◌, ◌≤◌, ℕ, true, false, rules, of_calls, arith}
use Rattle.std.specs.Prelude.{nat_lt, slice_index_or}
use Rattle.std.proofs.lemmas.Bool.Decides.{nat_tests}
use Rattle.std.proofs.lemmas.Fn.{always_returns_same}
use Rattle.machine_parts.specs.declared.spans.Span.{Span}
use Rattle.machine_parts.specs.Spans.{vertex_of}
use Rattle.machine_parts.proofs.SpanLaws.{no_span, stand_in_front}
use Rattle.machine_steps.proofs.reading.place_of.Goals as goal

is_below : (a v : ℕ) → nat_lt a v ≡ true → a < v
is_below a v h = grind (arith, nat_tests)

isnt_below : (a v : ℕ) → nat_lt a v ≡ false → v ≤ a
isnt_below a v h = grind (arith, nat_tests)

pub returns-clause-below : goal.returns-clause-below
returns-clause-below c =
    let v = c.args.vertex in
    let spans = c.args.spans.now in
    let point = c.partition_point.ensures.partitioned (λ (s : Span). nat_lt (vertex_of s) c.args.vertex)
    (always_returns_same _ _ _ (λ a r f k. search (rules, of_calls))) (stand_in_front v spans c.requires) in
    let bound = c.partition_point.ensures.bound in
    λ i lt. is_below (vertex_of (slice_index_or spans i no_span)) v (point.0 i no_span (omega arith) lt)

pub returns-clause-others : goal.returns-clause-others
returns-clause-others c =
    let v = c.args.vertex in
    let spans = c.args.spans.now in
    let point = c.partition_point.ensures.partitioned (λ (s : Span). nat_lt (vertex_of s) c.args.vertex)
    (always_returns_same _ _ _ (λ a r f k. search (rules, of_calls))) (stand_in_front v spans c.requires) in
    λ i from lt. isnt_below (vertex_of (slice_index_or spans i no_span)) v (point.1 i no_span from lt)
