use Rattle.std.proofs.lemmas.Result.{err_from_is_err_and}
use Rattle.command_steps.specs.Commands.{play_of}
use Rattle.edge_reader.specs.Gives.{graph_of_edges}
use Rattle.symple_run.specs.Played.{IsPlayed}
use Rattle.machine_runs.proofs.PlayLaws.{run_plays, table_goes, table_stops}
use Rattle.symple_words.specs.Views.{job_view}
use Rattle.symple_run.proofs.top.play.Goals as goal

pub returns-in_err-play_out : goal.returns-in_err-play_out
returns-in_err-play_out g c =
    let play = play_of (job_view c.args.job.now) c.args.machines c.args.typed.program (graph_of_edges c.args.edges) in
    let p = err_from_is_err_and c.from_residual-in_err-play_out.result c.from_residual-in_err-play_out.ensures.1 in
    rw (p.1, p.2) (run_plays (IsPlayed g.S.Site.work) g.S.Site.work play (λ course is. is)
    c.in_ok-cluster.cluster.world c.in_ok-cluster.ensures.first _ _ _
    c.in_err-play_out.ensures.err)

pub returns-in_err-put_table : goal.returns-in_err-put_table
returns-in_err-put_table g c =
    let lines = c.args.job.now.lines in
    let play = play_of (job_view c.args.job.now) c.args.machines c.args.typed.program (graph_of_edges c.args.edges) in
    let p = err_from_is_err_and c.from_residual-in_err-put_table.result c.from_residual-in_err-put_table.ensures.1 in
    rw (p.1, p.2) (run_plays (IsPlayed g.S.Site.work) g.S.Site.work play (λ course is. is)
    c.in_ok-cluster.cluster.world c.in_ok-cluster.ensures.first _ _ _
    (c.in_ok-play_out.ensures.ok _ _ (table_stops g.S.Site.work lines c.play_out.new.cluster.world _ _
    c.in_err-put_table.field-0.0 c.in_ok-play_out.ensures.finished c.in_err-put_table.ensures)))

pub returns : goal.returns
returns g c =
    let lines = c.args.job.now.lines in
    let play = play_of (job_view c.args.job.now) c.args.machines c.args.typed.program (graph_of_edges c.args.edges) in
    run_plays (IsPlayed g.S.Site.work) g.S.Site.work play (λ course is. is) c.in_ok-cluster.cluster.world
    c.in_ok-cluster.ensures.first _ _ _
    (c.in_ok-play_out.ensures.ok _ _ (table_goes g.S.Site.work lines c.play_out.new.cluster.world _ _
    c.in_ok-play_out.ensures.finished c.in_ok-put_table.ensures))
