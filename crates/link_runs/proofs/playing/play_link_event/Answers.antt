use Rattle.std.proofs.Common.{◌≡◌, [], ap, ◌∙◌}
use Rattle.std.specs.Prelude.{if◌then◌else◌}
use Rattle.std.proofs.lemmas.Result.{err_from_is_err_and}
use Rattle.array_text.proofs.WritesLaws.{writes_same}
use Rattle.command_steps.specs.Orders.{Puts}
use Rattle.link_core.specs.LinkRuns.{DrivenLinks}
use Rattle.link_core.specs.Links.{link_step}
use Rattle.link_runs.proofs.LinkedLaws.{link_round_is}
use Rattle.link_runs.specs.LinkTellings.{link_line, link_round}
use Rattle.machine_runs.proofs.PlayLaws.{plays_goes, plays_stops, put_goes, put_stops, put_wants}
use Rattle.machine_runs.specs.PlainPlays.{first_report}
use Rattle.schedule_laws.specs.Layout.{told_in}
use Rattle.schedule_laws.specs.Texts.{told_lines}
use Rattle.symple_face.specs.Cluster.{World}
use Rattle.link_runs.proofs.playing.play_link_event.Goals as goal

pub returns-in_err-write_link_line-clause-err : goal.returns-in_err-write_link_line-clause-err
returns-in_err-write_link_line-clause-err g c =
    let l = c.args.links.now.links in
    let e = c.args.event.now in
    let lines = c.args.lines.now in
    let p = err_from_is_err_and c.from_residual.result c.from_residual.ensures.1 in
    rw (p.1, p.2) (λ next shelf input.
    plays_stops (link_line lines l e) _ _ c.in_err-write_link_line.field-0.0 c.in_err-write_link_line.ensures
    (Puts (link_round g.S.Site.work lines l e) next) shelf input)

pub returns-in-Err-clause-err : goal.returns-in-Err-clause-err
returns-in-Err-clause-err g c =
    let l = c.args.links.now.links in
    let e = c.args.event.now in
    let lines = c.args.lines.now in
    let round = link_round g.S.Site.work lines l e in
    λ next shelf input. plays_goes (link_line lines l e) _ _ c.in_ok-write_link_line.ensures (Puts round next) shelf
    input _ _ (put_wants g.O.Sink.held g.O.Sink.faults g.O.Sink.spare c.write_link_line.new.out round next shelf input)

pub returns-in_err-write_round_if-clause-err : goal.returns-in_err-write_round_if-clause-err
returns-in_err-write_round_if-clause-err g c =
    let l = c.args.links.now.links in
    let work = g.S.Site.work in
    let e = c.args.event.now in
    let lines = c.args.lines.now in
    let world : c.cluster.result.now.world ≡ (link_step work l e).world =
    c.cluster.ensures.world ∙ ap (λ (d : DrivenLinks). d.links.world) c.in-Ok.ensures.ok.1 in
    let text : (if c.ends_link_round-tells.result then told_lines lines (told_in lines.reads work
    c.cluster.result.now.world (first_report work c.cluster.result.now.world)) else []) ≡ link_round work lines l e =
    ap (λ (v : World). if c.ends_link_round-tells.result then told_lines lines (told_in lines.reads work v
    (first_report work v)) else []) world
    ∙ ap (λ b. if b then told_lines lines (told_in lines.reads work (link_step work l e).world
    (first_report work (link_step work l e).world)) else []) c.ends_link_round-tells.ensures
    ∙ link_round_is work lines l e in
    let p = err_from_is_err_and c.from_residual-in_err-write_round_if.result
    c.from_residual-in_err-write_round_if.ensures.1 in
    rw (p.1, p.2) (λ next shelf input.
    plays_goes (link_line lines l e) _ _ c.in_ok-write_link_line.ensures (Puts (link_round work lines l e) next) shelf
    input _ _
    (put_stops g.O.Sink.held g.O.Sink.faults g.O.Sink.spare c.write_link_line.new.out c.write_round_if.new.out
    (link_round work lines l e) _ (writes_same text c.in_err-write_round_if.ensures) next shelf input))

pub returns-clause-state : goal.returns-clause-state
returns-clause-state g c = ap (λ (d : DrivenLinks). d.links) c.in-Ok.ensures.ok.1

pub returns-clause-ok : goal.returns-clause-ok
returns-clause-ok g c =
    let l = c.args.links.now.links in
    let work = g.S.Site.work in
    let e = c.args.event.now in
    let lines = c.args.lines.now in
    let world : c.cluster.result.now.world ≡ (link_step work l e).world =
    c.cluster.ensures.world ∙ ap (λ (d : DrivenLinks). d.links.world) c.in-Ok.ensures.ok.1 in
    let text : (if c.ends_link_round-tells.result then told_lines lines (told_in lines.reads work
    c.cluster.result.now.world (first_report work c.cluster.result.now.world)) else []) ≡ link_round work lines l e =
    ap (λ (v : World). if c.ends_link_round-tells.result then told_lines lines (told_in lines.reads work v
    (first_report work v)) else []) world
    ∙ ap (λ b. if b then told_lines lines (told_in lines.reads work (link_step work l e).world
    (first_report work (link_step work l e).world)) else []) c.ends_link_round-tells.ensures
    ∙ link_round_is work lines l e in
    λ next shelf input after outcome rest.
    plays_goes (link_line lines l e) _ _ c.in_ok-write_link_line.ensures (Puts (link_round work lines l e) next) shelf
    input after outcome
    (put_goes g.O.Sink.held g.O.Sink.faults g.O.Sink.spare c.write_link_line.new.out c.write_round_if.new.out
    (link_round work lines l e) (writes_same text c.in_ok-write_round_if.ensures) next shelf input after outcome rest)
