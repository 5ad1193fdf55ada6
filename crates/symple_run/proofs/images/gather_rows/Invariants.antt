use Rattle.std.proofs.Common.{◌≡◌, map, take}
use Rattle.schedule_laws.specs.Layout.{row_in, vertices_in}
use Rattle.symple_run.proofs.images.gather_rows.Given as goal

-- the rows of the vertices so far are gathered
abbrev pub invariant-vertices : goal.invariant-vertices
invariant-vertices g l = l.rows.items
    ≡ map (row_in g.S.Site.work l.cluster.world) (take l.v (vertices_in l.cluster.world))
