use Rattle.std.proofs.Common.{List, [], Some, subst}
use Rattle.std.proofs.lemmas.Result.{err_from_is_err_and}
use Rattle.command_steps.specs.Commands.{play_of}
use Rattle.command_steps.specs.Faults.{fault_of}
use Rattle.command_steps.specs.States.{sink_state}
use Rattle.command_steps.specs.Walks.{fault_after}
use Rattle.edge_reader.specs.Gives.{graph_of_edges}
use Rattle.link_core.specs.declared.event.LinkEvent.{LinkEvent}
use Rattle.link_runs.proofs.LinkedLaws.{linked_follows}
use Rattle.link_runs.specs.LinkTellings.{by_links, listed_links}
use Rattle.machine_runs.specs.FollowWalks.{EndsListed, FollowsTo, FollowsUp}
use Rattle.machine_runs.specs.Tellings.{by_worlds}
use Rattle.symple_face.specs.Cluster.{World}
use Rattle.symple_words.specs.Views.{job_view}
use Rattle.link_runs.proofs.following.follow_links.Goals as goal

pub returns-in_err-follow_events : goal.returns-in_err-follow_events
returns-in_err-follow_events g c =
    let play = play_of (job_view c.args.job.now) c.args.schedule.now.machines c.args.typed.program
    (graph_of_edges c.args.edges) in
    let t = by_links g.S.Site.work c.args.job.now.lines in
    let links = c.in_ok-links.ensures in
    let l = c.in_ok-links.links.links in
    let old = sink_state g.O.Sink.held g.O.Sink.faults g.O.Sink.spare c.args.out.now in
    let new = sink_state g.O.Sink.held g.O.Sink.faults g.O.Sink.spare c.follow_events.new.out in
    let fault = fault_of c.in_err-follow_events.field-0.0 in
    let p = err_from_is_err_and c.from_residual-in_err-follow_events.result
    c.from_residual-in_err-follow_events.ensures.1 in
    rw (p.1, p.2) (linked_follows g.S.Site.work play c.args.schedule.now.events.items l links.first links.anew old new
    (Some fault)
    (subst (λ (list : List LinkEvent). FollowsUp t l (listed_links 1 list) old new (Some fault)) c.deref.ensures.value
    c.in_err-follow_events.ensures.err))

pub returns : goal.returns
returns g c =
    let play = play_of (job_view c.args.job.now) c.args.schedule.now.machines c.args.typed.program
    (graph_of_edges c.args.edges) in
    let lines = c.args.job.now.lines in
    let t = by_links g.S.Site.work lines in
    let links = c.in_ok-links.ensures in
    let l = c.in_ok-links.links.links in
    let old = sink_state g.O.Sink.held g.O.Sink.faults g.O.Sink.spare c.args.out.now in
    let mid = sink_state g.O.Sink.held g.O.Sink.faults g.O.Sink.spare c.follow_events.new.out in
    let new = sink_state g.O.Sink.held g.O.Sink.faults g.O.Sink.spare c.put_end.new.out in
    let to = subst (λ (list : List LinkEvent). FollowsTo t l (listed_links 1 list) old c.follow_events.new.links.links
    []
    mid) c.deref.ensures.value c.in_ok-follow_events.ensures.ok in
    let ends = subst (λ (w : World). EndsListed (by_worlds g.S.Site.work lines) w mid new
    (fault_after c.put_end.result))
    c.cluster.ensures.world (c.put_end.ensures lines) in
    linked_follows g.S.Site.work play c.args.schedule.now.events.items l links.first links.anew old new
    (fault_after c.put_end.result) (λ shelf input. to shelf input _ _ (ends shelf input))
