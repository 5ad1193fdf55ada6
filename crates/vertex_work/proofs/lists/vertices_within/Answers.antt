-- One bound after the other.
use Rattle.std.proofs.Common.{◌∙◌, ap, map}
use Rattle.vertex_work.specs.Known.{number}
use Rattle.vertex_work.proofs.ListLaws.{below_ascends, within_both}
use Rattle.vertex_work.proofs.lists.vertices_within.Goals as goal

pub split_at_vertex-requires-2 : goal.split_at_vertex-requires-2
split_at_vertex-requires-2 c = below_ascends c.args.range.1 c.args.list.now c.split_at_vertex.result.0.now
    c.split_at_vertex.ensures.below c.requires

pub returns : goal.returns
returns c =
    ap (map number) c.split_at_vertex-2.ensures.others
    ∙ within_both c.args.range.0 c.args.range.1 c.args.list.now c.split_at_vertex.result.0.now
    c.split_at_vertex.ensures.below
