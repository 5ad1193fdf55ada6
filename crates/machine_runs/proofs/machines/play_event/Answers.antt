use Rattle.std.proofs.Common.{◌≡◌, [], ap, ◌∙◌}
use Rattle.std.specs.Prelude.{if◌then◌else◌}
use Rattle.std.proofs.lemmas.Result.{err_from_is_err_and}
use Rattle.array_text.proofs.WritesLaws.{writes_same}
use Rattle.cluster_run.specs.Driven.{Driven}
use Rattle.schedule_laws.specs.Layout.{round_lines, told_in}
use Rattle.schedule_laws.specs.Texts.{told_lines}
use Rattle.symple_face.specs.Cluster.{World, step}
use Rattle.command_steps.specs.Orders.{Puts}
use Rattle.machine_runs.specs.PlainPlays.{first_report, log_line}
use Rattle.machine_runs.proofs.PlayLaws.{plays_goes, plays_stops, put_goes, put_stops, put_wants, round_is}
use Rattle.machine_runs.proofs.machines.play_event.Goals as goal

pub returns-in_err-write_log-clause-err : goal.returns-in_err-write_log-clause-err
returns-in_err-write_log-clause-err g c =
    let w = c.args.cluster.now.world in
    let e = c.args.event.now in
    let lines = c.args.lines.now in
    let p = err_from_is_err_and c.from_residual.result c.from_residual.ensures.1 in
    rw (p.1, p.2) (λ next shelf input.
    plays_stops (log_line lines w e) _ _ c.in_err-write_log.field-0.0 c.in_err-write_log.ensures
    (Puts (round_lines g.S.Site.work lines w e) next) shelf input)

pub returns-in-Err-clause-err : goal.returns-in-Err-clause-err
returns-in-Err-clause-err g c =
    let w = c.args.cluster.now.world in
    let e = c.args.event.now in
    let lines = c.args.lines.now in
    let round = round_lines g.S.Site.work lines w e in
    λ next shelf input. plays_goes (log_line lines w e) _ _ c.in_ok-write_log.ensures (Puts round next) shelf input _ _
    (put_wants g.O.Sink.held g.O.Sink.faults g.O.Sink.spare c.write_log.new.out round next shelf input)

pub returns-in_err-write_round_if-clause-err : goal.returns-in_err-write_round_if-clause-err
returns-in_err-write_round_if-clause-err g c =
    let w = c.args.cluster.now.world in
    let work = g.S.Site.work in
    let e = c.args.event.now in
    let lines = c.args.lines.now in
    let world : c.event.new.self.world ≡ step work w e = ap (λ (d : Driven). d.world) c.in-Ok.ensures.ok.1 in
    let text : (if c.ends_round-tells.result then told_lines lines (told_in lines.reads work c.event.new.self.world
    (first_report work c.event.new.self.world)) else []) ≡ round_lines work lines w e =
    ap (λ (v : World). if c.ends_round-tells.result then told_lines lines (told_in lines.reads work v
    (first_report work v))
    else []) world
    ∙ ap (λ b. if b then told_lines lines (told_in lines.reads work (step work w e) (first_report work (step work w e)))
    else []) c.ends_round-tells.ensures
    ∙ round_is work lines w e in
    let p = err_from_is_err_and c.from_residual-in_err-write_round_if.result
    c.from_residual-in_err-write_round_if.ensures.1 in
    rw (p.1, p.2) (λ next shelf input.
    plays_goes (log_line lines w e) _ _ c.in_ok-write_log.ensures (Puts (round_lines work lines w e) next) shelf input
    _ _
    (put_stops g.O.Sink.held g.O.Sink.faults g.O.Sink.spare c.write_log.new.out c.write_round_if.new.out
    (round_lines work lines w e) _ (writes_same text c.in_err-write_round_if.ensures) next shelf input))

pub returns-clause-world : goal.returns-clause-world
returns-clause-world g c = ap (λ (d : Driven). d.world) c.in-Ok.ensures.ok.1

pub returns-clause-ok : goal.returns-clause-ok
returns-clause-ok g c =
    let w = c.args.cluster.now.world in
    let work = g.S.Site.work in
    let e = c.args.event.now in
    let lines = c.args.lines.now in
    let world : c.event.new.self.world ≡ step work w e = ap (λ (d : Driven). d.world) c.in-Ok.ensures.ok.1 in
    let text : (if c.ends_round-tells.result then told_lines lines (told_in lines.reads work c.event.new.self.world
    (first_report work c.event.new.self.world)) else []) ≡ round_lines work lines w e =
    ap (λ (v : World). if c.ends_round-tells.result then told_lines lines (told_in lines.reads work v
    (first_report work v))
    else []) world
    ∙ ap (λ b. if b then told_lines lines (told_in lines.reads work (step work w e) (first_report work (step work w e)))
    else []) c.ends_round-tells.ensures
    ∙ round_is work lines w e in
    λ next shelf input after outcome rest.
    plays_goes (log_line lines w e) _ _ c.in_ok-write_log.ensures (Puts (round_lines work lines w e) next) shelf input
    after outcome
    (put_goes g.O.Sink.held g.O.Sink.faults g.O.Sink.spare c.write_log.new.out c.write_round_if.new.out
    (round_lines work lines w e) (writes_same text c.in_ok-write_round_if.ensures) next shelf input after outcome rest)
