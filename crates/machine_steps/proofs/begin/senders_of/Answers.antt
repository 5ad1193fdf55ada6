-- The spans of senders rise.
use Rattle.std.proofs.Common.{ℕ, List, ◌∙◌, ap, subst, sym}
use Rattle.std.specs.Prelude.{slice_index}
use Rattle.std.specs.List.{filter}
use Rattle.std.specs.List.Sorted.{IsNonDecreasingBy}
use Rattle.vert_base.specs.Neighbours.{source}
use Rattle.chunk_split.specs.Chunks.{vertices_of}
use Rattle.symple_face.specs.CoreSight.{is_within}
use Rattle.machine_parts.specs.declared.spans.Span.{Span}
use Rattle.machine_parts.specs.Spans.{vertex_of}
use Rattle.machine_parts.proofs.SpanLaws.{spans_rise}
use Rattle.machine_steps.proofs.begin.senders_of.Goals as goal

pub spans_within-requires : goal.spans_within-requires
spans_within-requires c =
    let ground = c.args.ground.now in
    subst (IsNonDecreasingBy vertex_of) (sym c.deref.ensures.value)
    (spans_rise source (vertices_of ground.part.cuts) ground.part.push.items ground.groups.senders.items
    ground.grouped.senders)

pub returns : goal.returns
returns c =
    let spans : ℕ → ℕ → List Span → List Span = λ a b list. filter (λ s. is_within (a, b) (vertex_of s)) list in
    c.spans_within.ensures
    ∙ ap (λ list. spans c.start.result c.end.result list) c.deref.ensures.value
    ∙ ap (λ b. spans c.start.result b c.args.ground.now.groups.senders.items) c.end.ensures.value
    ∙ ap
    (λ a.
    spans a (slice_index c.args.ground.now.part.cuts c.args.chunk) c.args.ground.now.groups.senders.items)
    c.start.ensures
