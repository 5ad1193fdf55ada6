use Rattle.std.proofs.Common.{◌<◌, ◌≤◌, ◌∙◌, ℕ, length, subst, arith}
use Rattle.schedule_laws.specs.Layout.{vertices_in}
use Rattle.symple_run.proofs.RowsTold.{rows_all, rows_more}
use Rattle.symple_run.proofs.images.gather_rows.Goals as goal

pub vertices-preserved : goal.vertices-preserved
vertices-preserved g c =
    let w = c.args.cluster.now.world in
    let k = c.vertices.v in
    let lt : k < length (vertices_in w) =
    subst (λ (n : ℕ). k < n) c.vertices-v-end.ensures c.vertices-test.true in
    c.in_ok-push.ensures.items
    ∙ rows_more g.S.Site.work w k c.vertices.rows.items c.vertices.invariant c.row_of.result lt c.row_of.ensures

pub returns : goal.returns
returns g c =
    let w = c.args.cluster.now.world in
    let k = c.vertices.v in
    let all : length (vertices_in w) ≤ k =
    omega (arith, c.vertices-v-end.ensures, c.vertices.auto.v-end, c.vertices-test.false) in
    rows_all g.S.Site.work w k c.vertices.rows.items c.vertices.invariant all
