use Rattle.std.proofs.Common.{ℕ, ◌∙◌, subst}
use Rattle.vert_base.specs.Neighbours.{AreBelow}
use Rattle.plain_run.proofs.GraphLaws.{outs_count}
use Rattle.plain_run.proofs.graph.Graph.outdegree.Goals as goal

pub returns : goal.returns
returns c =
    let table = c.self.inside.table.now in
    let below : AreBelow table.vertices table.list =
    subst (λ (n : ℕ). AreBelow n table.list) c.vertices-vertices.ensures.value c.vertices-vertices.ensures.below in
    rw (← c.self.view_is) (c.outdeg.ensures.value ∙ outs_count table.vertices table.list c.args.v below)
