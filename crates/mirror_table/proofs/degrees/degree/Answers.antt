-- A degree counts the edges of a vertex.
use Rattle.std.proofs.Common.{ℕ, subst}
use Rattle.vert_base.specs.Neighbours.{AreBelow}
use Rattle.mirror_table.proofs.DegreeLaws.{degree_made}
use Rattle.mirror_table.proofs.degrees.degree.Goals as goal

pub returns : goal.returns
returns c =
    degree_made c.args.table.now.vertices c.args.table.now.list c.args.v.0 c.indeg.result c.outdeg.result
    (subst (λ (q : ℕ). AreBelow q c.args.table.now.list) c.vertices-within.ensures.value
    c.vertices-within.ensures.below) c.indeg.ensures.value c.outdeg.ensures.value
