use Rattle.std.proofs.Common.{◌<◌, ◌≤◌, ◌+◌, ℕ, length, slice_get, subst, arith}
use Rattle.array_text.proofs.WritesLaws.{writes_failed, writes_nothing, writes_same, writes_then}
use Rattle.schedule_laws.specs.Layout.{vertices_in}
use Rattle.machine_runs.specs.PlainPlays.{lines_behind}
use Rattle.machine_runs.proofs.WorldLaws.{first_site, lines_all, lines_more, lines_none, lines_split, of_run}
use Rattle.machine_runs.proofs.table.write_rows.Goals as goal

pub vertices-init : goal.vertices-init
vertices-init g c =
    let w = c.args.cluster.now.world in
    let work = g.S.Site.work in
    let reached = c.tells_reached.ensures c.requires.on in
    let first = first_site reached.one_run.ends reached.split w
    (of_run work g.S.Site.sound g.met.S.Site.lawful w reached) in
    writes_same (lines_none work w 0 first.0 first.1 (omega arith))
    (writes_nothing g.O.Sink.held g.O.Sink.faults g.O.Sink.spare c.args.out.now)

pub returns-in_err-write_line : goal.returns-in_err-write_line
returns-in_err-write_line g c =
    let w = c.args.cluster.now.world in
    let work = g.S.Site.work in
    let k = c.vertices.v in
    let reached = c.tells_reached.ensures c.requires.on in
    let first = first_site reached.one_run.ends reached.split w
    (of_run work g.S.Site.sound g.met.S.Site.lawful w reached) in
    let lt : k < length (vertices_in w) =
    subst (λ (n : ℕ). k < n) c.vertices-v-end.ensures c.vertices-test.true in
    writes_same (lines_split work w k first.0 first.1 lt)
    (writes_failed (lines_behind work w (k + 1) (slice_get w.sites 0)) c.from_residual.result c.from_residual.ensures.0
    (writes_then _ c.vertices.invariant c.in_err-write_line.ensures))

pub vertices-preserved : goal.vertices-preserved
vertices-preserved g c =
    let w = c.args.cluster.now.world in
    let work = g.S.Site.work in
    let k = c.vertices.v in
    let reached = c.tells_reached.ensures c.requires.on in
    let first = first_site reached.one_run.ends reached.split w
    (of_run work g.S.Site.sound g.met.S.Site.lawful w reached) in
    let lt : k < length (vertices_in w) =
    subst (λ (n : ℕ). k < n) c.vertices-v-end.ensures c.vertices-test.true in
    writes_same (lines_more work w k first.0 first.1 lt)
    (writes_then _ c.vertices.invariant c.in_ok-write_line.ensures)

pub returns : goal.returns
returns g c =
    let w = c.args.cluster.now.world in
    let work = g.S.Site.work in
    let k = c.vertices.v in
    let reached = c.tells_reached.ensures c.requires.on in
    let first = first_site reached.one_run.ends reached.split w
    (of_run work g.S.Site.sound g.met.S.Site.lawful w reached) in
    let all : length (vertices_in w) ≤ k =
    omega (arith, c.vertices-v-end.ensures, c.vertices.auto.v-end, c.vertices-test.false) in
    writes_same (lines_all work w k first.0 first.1 all) c.vertices.invariant
