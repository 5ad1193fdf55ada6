use Rattle.std.proofs.Common.{inl, inr, refl}
use Rattle.std.proofs.lemmas.Result.{err_from_is_err_and}
use Rattle.command_steps.specs.Commands.{play_of}
use Rattle.command_steps.specs.Leaves.{WantsAtRun}
use Rattle.delivery_log.specs.Choosers.{generator_of}
use Rattle.edge_reader.specs.Gives.{graph_of_edges}
use Rattle.link_runs.proofs.WritingLaws.{store_written}
use Rattle.symple_run.proofs.RecordLaws.{kept_put, kept_unput, run_records, unkept}
use Rattle.symple_words.specs.Views.{job_view}
use Rattle.symple_run.proofs.recording.play_drawn.Goals as goal

pub returns-in_err-recorder-clause-order : goal.returns-in_err-recorder-clause-order
returns-in_err-recorder-clause-order g c =
    let p = err_from_is_err_and c.from_residual-in_err-recorder.result c.from_residual-in_err-recorder.ensures.1 in
    rw (p.1, p.2) (λ input. WantsAtRun (record { same = refl; memory = refl }))

pub returns-in_err-record_events-clause-order : goal.returns-in_err-record_events-clause-order
returns-in_err-record_events-clause-order g c =
    let play = play_of (job_view c.args.job.now) c.args.machines c.args.read.0.program (graph_of_edges c.args.read.1) in
    let p = err_from_is_err_and c.from_residual-in_err-record_events.result
    c.from_residual-in_err-record_events.ensures.1 in
    rw (p.1, p.2) (λ input. run_records g.S.Site.work play c.args.seed c.args.schedule.now
    c.in_ok-cluster.cluster.world c.in_ok-cluster.ensures.first _ _ _
    (c.in_err-record_events.ensures.err c.args.machines c.in_ok-recorder.ensures c.args.schedule.now _ input))

pub returns-in_err-store_file-clause-order : goal.returns-in_err-store_file-clause-order
returns-in_err-store_file-clause-order g c =
    let play = play_of (job_view c.args.job.now) c.args.machines c.args.read.0.program (graph_of_edges c.args.read.1) in
    let w = c.in_ok-cluster.cluster.world in
    let done = c.in_ok-record_events.ensures.ok c.args.machines c.in_ok-recorder.ensures in
    let p = err_from_is_err_and c.from_residual-in_err-store_file.result c.from_residual-in_err-store_file.ensures.1 in
    rw (p.1, p.2) (λ input. run_records g.S.Site.work play c.args.seed c.args.schedule.now w
    c.in_ok-cluster.ensures.first _ _ _
    (unkept g.S.Site.work c.args.job.now.lines c.args.machines w (generator_of c.args.seed) done.0 _ _
    c.record_events.new.cluster.world c.record_events.new.recorder done.1 c.in_ok-record_events.ensures.finished
    c.args.schedule.now c.text.result.now c.text.ensures _ _ input c.in_err-store_file.field-0.0
    c.in_err-store_file.ensures.stored))

pub returns-in_err-put_table-clause-order : goal.returns-in_err-put_table-clause-order
returns-in_err-put_table-clause-order g c =
    let play = play_of (job_view c.args.job.now) c.args.machines c.args.read.0.program (graph_of_edges c.args.read.1) in
    let w = c.in_ok-cluster.cluster.world in
    let done = c.in_ok-record_events.ensures.ok c.args.machines c.in_ok-recorder.ensures in
    let p = err_from_is_err_and c.from_residual-in_err-put_table.result
    c.from_residual-in_err-put_table.ensures.1 in
    rw (p.1, p.2) (λ input. run_records g.S.Site.work play c.args.seed c.args.schedule.now w
    c.in_ok-cluster.ensures.first _ _ _
    (kept_unput g.S.Site.work c.args.job.now.lines c.args.machines w (generator_of c.args.seed) done.0 _ _
    c.record_events.new.cluster.world c.record_events.new.recorder done.1 c.in_ok-record_events.ensures.finished
    c.args.schedule.now c.text.result.now c.text.ensures _ _ input c.in_ok-store_file.ensures.stored _
    c.in_err-put_table.field-0.0 c.in_err-put_table.ensures))

pub returns-clause-order : goal.returns-clause-order
returns-clause-order g c =
    let play = play_of (job_view c.args.job.now) c.args.machines c.args.read.0.program (graph_of_edges c.args.read.1) in
    let w = c.in_ok-cluster.cluster.world in
    let done = c.in_ok-record_events.ensures.ok c.args.machines c.in_ok-recorder.ensures in
    λ input. run_records g.S.Site.work play c.args.seed c.args.schedule.now w c.in_ok-cluster.ensures.first _ _ _
    (kept_put g.S.Site.work c.args.job.now.lines c.args.machines w (generator_of c.args.seed) done.0 _ _
    c.record_events.new.cluster.world c.record_events.new.recorder done.1 c.in_ok-record_events.ensures.finished
    c.args.schedule.now c.text.result.now c.text.ensures _ _ input c.in_ok-store_file.ensures.stored _
    c.in_ok-put_table.ensures)

pub returns-in_err-cluster-clause-written : goal.returns-in_err-cluster-clause-written
returns-in_err-cluster-clause-written g c =
    let p = err_from_is_err_and c.from_residual.result c.from_residual.ensures.1 in
    rw p.1 (inr refl)

pub returns-in_err-recorder-clause-written : goal.returns-in_err-recorder-clause-written
returns-in_err-recorder-clause-written g c =
    let p = err_from_is_err_and c.from_residual-in_err-recorder.result c.from_residual-in_err-recorder.ensures.1 in
    rw p.1 (inr refl)

pub returns-in_err-record_events-clause-written : goal.returns-in_err-record_events-clause-written
returns-in_err-record_events-clause-written g c =
    let p = err_from_is_err_and c.from_residual-in_err-record_events.result
    c.from_residual-in_err-record_events.ensures.1 in
    rw p.1 (inr refl)

pub returns-in_err-store_file-clause-written : goal.returns-in_err-store_file-clause-written
returns-in_err-store_file-clause-written g c =
    let p = err_from_is_err_and c.from_residual-in_err-store_file.result c.from_residual-in_err-store_file.ensures.1 in
    rw (p.1, p.2) (store_written _ _ _ _ c.in_err-store_file.ensures.stored)

pub returns-in_err-put_table-clause-written : goal.returns-in_err-put_table-clause-written
returns-in_err-put_table-clause-written g c =
    let p = err_from_is_err_and c.from_residual-in_err-put_table.result
    c.from_residual-in_err-put_table.ensures.1 in
    rw (p.1, p.2) (inl refl)
