use Rattle.std.proofs.Common.{◌<◌, ◌≤◌, ◌+◌, ℕ, drop, length, map, subst, arith}
use Rattle.array_text.proofs.WritesLaws.{writes_failed, writes_nothing, writes_same, writes_then}
use Rattle.schedule_laws.specs.Layout.{reads_in, vertices_in}
use Rattle.schedule_laws.specs.Texts.{read_lines}
use Rattle.machine_runs.proofs.ReadTurns.{read_lines_all, read_lines_more, read_lines_split}
use Rattle.machine_runs.proofs.rounds.write_read_lines.Goals as goal

pub vertices-init : goal.vertices-init
vertices-init g c = writes_nothing g.O.Sink.held g.O.Sink.faults g.O.Sink.spare c.args.out.now

pub returns-in_err-write_read_line : goal.returns-in_err-write_read_line
returns-in_err-write_read_line g c =
    let w = c.args.cluster.now.world in
    let work = g.S.Site.work in
    let k = c.vertices.v in
    let lt : k < length (vertices_in w) =
    subst (λ (n : ℕ). k < n) c.vertices-v-end.ensures c.vertices-test.true in
    writes_same (read_lines_split work w c.args.round k lt)
    (writes_failed (read_lines c.args.round (k + 1) (drop (k + 1) (map (reads_in work w) (vertices_in w))))
    c.from_residual.result c.from_residual.ensures.0
    (writes_then _ c.vertices.invariant c.in_err-write_read_line.ensures))

pub vertices-preserved : goal.vertices-preserved
vertices-preserved g c =
    let w = c.args.cluster.now.world in
    let k = c.vertices.v in
    let lt : k < length (vertices_in w) =
    subst (λ (n : ℕ). k < n) c.vertices-v-end.ensures c.vertices-test.true in
    writes_same (read_lines_more g.S.Site.work w c.args.round k lt)
    (writes_then _ c.vertices.invariant c.in_ok-write_read_line.ensures)

pub returns : goal.returns
returns g c =
    let w = c.args.cluster.now.world in
    let k = c.vertices.v in
    let all : length (vertices_in w) ≤ k =
    omega (arith, c.vertices-v-end.ensures, c.vertices.auto.v-end, c.vertices-test.false) in
    writes_same (read_lines_all g.S.Site.work w c.args.round k all) c.vertices.invariant
