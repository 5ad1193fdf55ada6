use Rattle.std.proofs.lemmas.Result.{err_from_is_err_and}
use Rattle.command_steps.specs.Commands.{play_of}
use Rattle.command_steps.specs.Orders.{Play}
use Rattle.command_steps.specs.States.{outside, sink_state}
use Rattle.edge_reader.specs.Gives.{graph_of_edges}
use Rattle.link_runs.proofs.OneLaws.{says_few}
use Rattle.std.proofs.Common.{ℕ}
use Rattle.symple_run.proofs.FollowLaws.{are_link_machines, links_faulty, links_follow}
use Rattle.symple_words.specs.Views.{job_view}
use Rattle.symple_run.proofs.following.follow_over_links.Goals as goal

pub returns-in_err-schedule : goal.returns-in_err-schedule
returns-in_err-schedule g c =
    let play : ℕ → Play = λ machines. play_of (job_view c.args.job.now) machines c.args.typed.program
    (graph_of_edges c.args.edges) in
    let p = err_from_is_err_and c.from_residual.result c.from_residual.ensures.1 in
    rw (p.1, p.2) (λ shelf input. links_faulty g.S.Site.work play c.args.text.now _ c.in_err-schedule.ensures
    (outside shelf (sink_state g.O.Sink.held g.O.Sink.faults g.O.Sink.spare c.args.out.now) input))

pub follow_links-requires : goal.follow_links-requires
follow_links-requires g c =
    let m = c.in_ok-schedule.schedule.machines in
    let es = c.in_ok-schedule.schedule.events.items in
    record {
      few = are_link_machines c.args.text.now m es c.in_ok-schedule.ensures;
      short = says_few c.args.text.now m es c.in_ok-schedule.ensures;
    }

pub returns : goal.returns
returns g c =
    let play : ℕ → Play = λ machines. play_of (job_view c.args.job.now) machines c.args.typed.program
    (graph_of_edges c.args.edges) in
    let m = c.in_ok-schedule.schedule.machines in
    let es = c.in_ok-schedule.schedule.events.items in
    λ shelf input. links_follow g.S.Site.work play c.args.text.now m es c.in_ok-schedule.ensures _ _ _
    (c.follow_links.ensures shelf input)
