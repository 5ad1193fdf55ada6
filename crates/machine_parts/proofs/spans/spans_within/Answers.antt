-- One bound after the other.
use Rattle.std.proofs.Common.{◌∙◌}
use Rattle.machine_parts.proofs.SpanLaws.{below_in_order, within_bounds}
use Rattle.machine_parts.proofs.spans.spans_within.Goals as goal

pub split_at_vertex-requires-2 : goal.split_at_vertex-requires-2
split_at_vertex-requires-2 c = below_in_order c.args.end c.args.spans.now c.split_at_vertex.result.0.now
    c.split_at_vertex.ensures.below c.requires

pub returns : goal.returns
returns c =
    c.split_at_vertex-2.ensures.others
    ∙ within_bounds c.args.start c.args.end c.args.spans.now c.split_at_vertex.result.0.now
    c.split_at_vertex.ensures.below
