use Rattle.std.proofs.Common.{◌∙◌, Err, Ok, inl, inr, refl, subst}
use Rattle.std.proofs.lemmas.Result.{err_from_is_err_and}
use Rattle.command_steps.specs.Commands.{play_of}
use Rattle.delivery_log.specs.Choosers.{generator_of}
use Rattle.edge_reader.specs.Gives.{graph_of_edges}
use Rattle.link_core.specs.LinkRecords.{RecordsLinks}
use Rattle.link_core.specs.LinkTexts.{links_text}
use Rattle.link_runs.specs.LinkedPlays.{IsDrawnFar}
use Rattle.link_runs.specs.LinkTellings.{by_links}
use Rattle.link_runs.proofs.LinkedLaws.{lossy_runs}
use Rattle.link_runs.proofs.WritingLaws.{store_written}
use Rattle.machine_runs.proofs.RecordLaws.{kept_put, kept_unput, unkept}
use Rattle.command_steps.specs.States.{sink_state}
use Rattle.command_steps.specs.Walks.{HandsOn}
use Rattle.schedule_laws.specs.Layout.{table_of}
use Rattle.symple_face.specs.Cluster.{World}
use Rattle.symple_words.specs.Views.{job_view}
use Rattle.link_runs.proofs.recording.record_lossy.Goals as goal

pub returns-in_err-recorder-clause-order : goal.returns-in_err-recorder-clause-order
returns-in_err-recorder-clause-order g c =
    let play = play_of (job_view c.args.job.now) c.args.machines c.args.read.0.program (graph_of_edges c.args.read.1) in
    let links = c.in_ok-links.ensures in
    let p = err_from_is_err_and c.from_residual-in_err-recorder.result c.from_residual-in_err-recorder.ensures.1 in
    rw (p.1, p.2) (λ input. lossy_runs g.S.Site.work play c.args.seed c.args.schedule.now c.in_ok-links.links.links
    c.requires.few links.first links.anew _ _ _ (c.in_err-recorder.ensures.err c.args.schedule.now _ input))

pub returns-in_err-store_file-clause-order : goal.returns-in_err-store_file-clause-order
returns-in_err-store_file-clause-order g c =
    let work = g.S.Site.work in
    let m = c.args.machines in
    let play = play_of (job_view c.args.job.now) m c.args.read.0.program (graph_of_edges c.args.read.1) in
    let links = c.in_ok-links.ensures in
    let done = c.in_ok-recorder.ensures.ok in
    let p = err_from_is_err_and c.from_residual-in_err-store_file.result c.from_residual-in_err-store_file.ensures.1 in
    rw (p.1, p.2) (λ input. lossy_runs work play c.args.seed c.args.schedule.now c.in_ok-links.links.links
    c.requires.few
    links.first links.anew _ _ _
    (unkept (by_links work c.args.job.now.lines) (links_text m) (IsDrawnFar work m) c.args.schedule.now
    (RecordsLinks c.in_ok-recorder.recorder m) c.in_ok-links.links.links c.record_events.new.links.links
    (generator_of c.args.seed) done.0 _ _ done.1 (tt, inl c.in_ok-recorder.ensures.finished) c.text.result.now
    (c.text.ensures ∙ done.1.has.spelled) _ _ input c.in_err-store_file.field-0.0 c.in_err-store_file.ensures.stored))

pub returns-in_err-put_table-clause-order : goal.returns-in_err-put_table-clause-order
returns-in_err-put_table-clause-order g c =
    let work = g.S.Site.work in
    let m = c.args.machines in
    let play = play_of (job_view c.args.job.now) m c.args.read.0.program (graph_of_edges c.args.read.1) in
    let links = c.in_ok-links.ensures in
    let done = c.in_ok-recorder.ensures.ok in
    let p = err_from_is_err_and c.from_residual-in_err-put_table.result c.from_residual-in_err-put_table.ensures.1 in
    rw (p.1, p.2) (λ input. lossy_runs work play c.args.seed c.args.schedule.now c.in_ok-links.links.links
    c.requires.few
    links.first links.anew _ _ _
    (kept_unput (by_links work c.args.job.now.lines) (links_text m) (IsDrawnFar work m) c.args.schedule.now
    (RecordsLinks c.in_ok-recorder.recorder m) c.in_ok-links.links.links c.record_events.new.links.links
    (generator_of c.args.seed) done.0 _ _ done.1 (tt, inl c.in_ok-recorder.ensures.finished) c.text.result.now
    (c.text.ensures ∙ done.1.has.spelled) _ _ input c.in_ok-store_file.ensures.stored _ c.in_err-put_table.field-0.0
    (subst (λ (w : World). HandsOn (table_of work w)
    (sink_state g.O.Sink.held g.O.Sink.faults g.O.Sink.spare c.record_events.new.out)
    (sink_state g.O.Sink.held g.O.Sink.faults g.O.Sink.spare c.put_table.new.out)
    (Err c.in_err-put_table.field-0.0)) c.cluster.ensures.world c.in_err-put_table.ensures)))

pub returns-clause-order : goal.returns-clause-order
returns-clause-order g c =
    let work = g.S.Site.work in
    let m = c.args.machines in
    let play = play_of (job_view c.args.job.now) m c.args.read.0.program (graph_of_edges c.args.read.1) in
    let links = c.in_ok-links.ensures in
    let done = c.in_ok-recorder.ensures.ok in
    λ input. lossy_runs work play c.args.seed c.args.schedule.now c.in_ok-links.links.links c.requires.few links.first
    links.anew _ _ _
    (kept_put (by_links work c.args.job.now.lines) (links_text m) (IsDrawnFar work m) c.args.schedule.now
    (RecordsLinks c.in_ok-recorder.recorder m) c.in_ok-links.links.links c.record_events.new.links.links
    (generator_of c.args.seed) done.0 _ _ done.1 (tt, inl c.in_ok-recorder.ensures.finished) c.text.result.now
    (c.text.ensures ∙ done.1.has.spelled) _ _ input c.in_ok-store_file.ensures.stored _
    (subst (λ (w : World). HandsOn (table_of work w)
    (sink_state g.O.Sink.held g.O.Sink.faults g.O.Sink.spare c.record_events.new.out)
    (sink_state g.O.Sink.held g.O.Sink.faults g.O.Sink.spare c.put_table.new.out) (Ok tt))
    c.cluster.ensures.world c.in_ok-put_table.ensures))

pub returns-in_err-links-clause-written : goal.returns-in_err-links-clause-written
returns-in_err-links-clause-written g c =
    let p = err_from_is_err_and c.from_residual.result c.from_residual.ensures.1 in
    rw p.1 (inr refl)

pub returns-in_err-recorder-clause-written : goal.returns-in_err-recorder-clause-written
returns-in_err-recorder-clause-written g c =
    let p = err_from_is_err_and c.from_residual-in_err-recorder.result c.from_residual-in_err-recorder.ensures.1 in
    rw p.1 (inr refl)

pub returns-in_err-store_file-clause-written : goal.returns-in_err-store_file-clause-written
returns-in_err-store_file-clause-written g c =
    let p = err_from_is_err_and c.from_residual-in_err-store_file.result c.from_residual-in_err-store_file.ensures.1 in
    rw (p.1, p.2) (store_written _ _ _ _ c.in_err-store_file.ensures.stored)

pub returns-in_err-put_table-clause-written : goal.returns-in_err-put_table-clause-written
returns-in_err-put_table-clause-written g c =
    let p = err_from_is_err_and c.from_residual-in_err-put_table.result c.from_residual-in_err-put_table.ensures.1 in
    rw (p.1, p.2) (inl refl)
