use Rattle.std.proofs.Common.{List, [], Some, subst}
use Rattle.std.proofs.lemmas.Result.{err_from_is_err_and}
use Rattle.command_steps.specs.Commands.{play_of}
use Rattle.command_steps.specs.Faults.{fault_of}
use Rattle.command_steps.specs.States.{sink_state}
use Rattle.edge_reader.specs.Gives.{graph_of_edges}
use Rattle.symple_run.specs.FollowWalks.{FollowsTo, FollowsUp}
use Rattle.symple_run.proofs.FollowLaws.{run_follows}
use Rattle.symple_words.specs.Views.{job_view}
use Rattle.vert_base.specs.declared.message.Event.{Event}
use Rattle.symple_run.proofs.following.follow_schedule.Goals as goal

pub returns-in_err-follow_events : goal.returns-in_err-follow_events
returns-in_err-follow_events g c =
    let play = play_of (job_view c.args.job.now) c.args.schedule.now.machines c.args.typed.program
    (graph_of_edges c.args.edges) in
    let es = c.args.schedule.now.events.items in
    let w = c.in_ok-cluster.cluster.world in
    let old = sink_state g.O.Sink.held g.O.Sink.faults g.O.Sink.spare c.args.out.now in
    let new = sink_state g.O.Sink.held g.O.Sink.faults g.O.Sink.spare c.follow_events.new.out in
    let fault = fault_of c.in_err-follow_events.field-0.0 in
    let p = err_from_is_err_and c.from_residual-in_err-follow_events.result
    c.from_residual-in_err-follow_events.ensures.1 in
    rw (p.1, p.2) (run_follows g.S.Site.work play c.args.form es w c.in_ok-cluster.ensures.first old new (Some fault)
    (subst (λ (list : List Event). FollowsUp g.S.Site.work c.args.job.now.lines c.args.form
    (record { held = 0; lines = 1; world = w; left = list }) old new (Some fault)) c.deref.ensures.value
    c.in_err-follow_events.ensures.err))

pub returns : goal.returns
returns g c =
    let play = play_of (job_view c.args.job.now) c.args.schedule.now.machines c.args.typed.program
    (graph_of_edges c.args.edges) in
    let es = c.args.schedule.now.events.items in
    let w = c.in_ok-cluster.cluster.world in
    let old = sink_state g.O.Sink.held g.O.Sink.faults g.O.Sink.spare c.args.out.now in
    let mid = sink_state g.O.Sink.held g.O.Sink.faults g.O.Sink.spare c.follow_events.new.out in
    let lines = c.args.job.now.lines in
    let to = subst (λ (list : List Event). FollowsTo g.S.Site.work lines c.args.form
    (record { held = 0; lines = 1; world = w; left = list }) old
    (record { held = 0; lines = 1; world = c.follow_events.new.cluster.world; left = [] }) mid) c.deref.ensures.value
    c.in_ok-follow_events.ensures.ok in
    run_follows g.S.Site.work play c.args.form es w c.in_ok-cluster.ensures.first old _ _
    (λ k i. to k i _ _ (c.put_end.ensures lines k i))
