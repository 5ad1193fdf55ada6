-- A search by halves finds where the vertices reach a number.
use Rattle.std.proofs.Common.{◌∙◌, rules, of_calls}
use Rattle.std.specs.Prelude.{nat_le, nat_lt}
use Rattle.std.proofs.lemmas.Fn.{always_returns_same}
use Rattle.vert_base.specs.declared.graph.VertexId.{VertexId}
use Rattle.machine_parts.proofs.SpanLaws.{failing_last, not_below, passing_first}
use Rattle.vertex_work.specs.Known.{number}
use Rattle.vertex_work.proofs.ListLaws.{no_vertex, vertices_in_front}
use Rattle.vertex_work.proofs.lists.split_at_vertex.Goals as goal

pub returns-clause-below : goal.returns-clause-below
returns-clause-below c =
    let v = c.args.vertex in
    let list = c.args.list.now in
    let point = c.partition_point-count.ensures.partitioned (λ (u : VertexId). nat_lt (number u) c.args.vertex)
    (always_returns_same _ _ _ (λ a r f k. search (rules, of_calls))) (vertices_in_front v list c.requires) in
    c.split_at.ensures.front
    ∙ passing_first (λ (u : VertexId). nat_lt (number u) v) (λ (u : VertexId). nat_le v (number u)) list
    c.partition_point-count.result no_vertex
    c.partition_point-count.ensures.bound point (λ u. not_below (number u) v)

pub returns-clause-others : goal.returns-clause-others
returns-clause-others c =
    let v = c.args.vertex in
    let list = c.args.list.now in
    let point = c.partition_point-count.ensures.partitioned (λ (u : VertexId). nat_lt (number u) c.args.vertex)
    (always_returns_same _ _ _ (λ a r f k. search (rules, of_calls))) (vertices_in_front v list c.requires) in
    c.split_at.ensures.back
    ∙ failing_last (λ (u : VertexId). nat_lt (number u) v) (λ (u : VertexId). nat_le v (number u)) list
    c.partition_point-count.result no_vertex
    c.partition_point-count.ensures.bound point (λ u. not_below (number u) v)
