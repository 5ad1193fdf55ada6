use Rattle.std.proofs.Common.{◌≡◌, ◌+◌, ◌<◌, ◌^◌, ℕ, List, Option, Ok, length, subst, sym}
use Rattle.command_steps.specs.Commands.{play_of}
use Rattle.command_steps.specs.Orders.{Play}
use Rattle.command_steps.specs.States.{outside, sink_state}
use Rattle.delivery_log.specs.declared.form.Form.{Form}
use Rattle.delivery_log.specs.declared.form.Schedule.{Schedule}
use Rattle.delivery_log.specs.ScheduleTexts.{events_lines}
use Rattle.edge_reader.specs.Gives.{graph_of_edges}
use Rattle.symple_run.specs.FileWalks.{TellsEvents}
use Rattle.symple_run.proofs.FollowLaws.{are_machines, lines_few, text_faulty, text_follows, text_linked}
use Rattle.symple_words.specs.Views.{job_view}
use Rattle.symple_run.proofs.following.follow.Goals as goal

says : (text : List ℕ) (told found : Option Schedule) → told ≡ found → TellsEvents text (Ok told) →
    TellsEvents text (Ok found)
says text told found is tells = subst (λ (o : Option Schedule). TellsEvents text (Ok o)) is tells

pub follow_schedule-requires-clause-few : goal.follow_schedule-requires-clause-few
follow_schedule-requires-clause-few g c =
    let here = c.in-Ok-Some in
    are_machines c.args.text.now here.schedule.machines here.schedule.events.items
    (says c.args.text.now here.field-0 _ here.field-0-is here.ensures)

pub follow_schedule-requires-clause-short : goal.follow_schedule-requires-clause-short
follow_schedule-requires-clause-short g c =
    let here = c.in-Ok-Some in
    let m = here.schedule.machines in
    let es = here.schedule.events.items in
    let told = says c.args.text.now here.field-0 _ here.field-0-is here.ensures in
    subst (λ (form : Form). 1 + length (events_lines form 0 es) < 2 ^ 32) (sym (c.form_of.ensures m es told))
    (lines_few c.args.text.now m es told)

pub returns-in-Ok-Some : goal.returns-in-Ok-Some
returns-in-Ok-Some g c =
    let play : ℕ → Play = λ machines. play_of (job_view c.args.job.now) machines c.args.typed.program
    (graph_of_edges c.args.edges) in
    let here = c.in-Ok-Some in
    let m = here.schedule.machines in
    let es = here.schedule.events.items in
    let told = says c.args.text.now here.field-0 _ here.field-0-is here.ensures in
    λ shelf input. text_follows g.S.Site.work play c.args.text.now m es told c.form_of.result
    (c.form_of.ensures m es told) _ _ _ (c.follow_schedule.ensures shelf input)

pub returns-in-Ok-None : goal.returns-in-Ok-None
returns-in-Ok-None g c =
    let play : ℕ → Play = λ machines. play_of (job_view c.args.job.now) machines c.args.typed.program
    (graph_of_edges c.args.edges) in
    let here = c.in-Ok-None in
    λ shelf input. text_linked g.S.Site.work play c.args.text.now
    (says c.args.text.now here.field-0 _ here.field-0-is here.ensures) _ _ _ (c.follow_over_links.ensures shelf input)

pub returns-in-Err : goal.returns-in-Err
returns-in-Err g c =
    let play : ℕ → Play = λ machines. play_of (job_view c.args.job.now) machines c.args.typed.program
    (graph_of_edges c.args.edges) in
    λ shelf input. text_faulty g.S.Site.work play c.args.text.now _ c.in-Err.ensures.1 c.in-Err.ensures.0
    (outside shelf (sink_state g.O.Sink.held g.O.Sink.faults g.O.Sink.spare c.args.out.now) input)
