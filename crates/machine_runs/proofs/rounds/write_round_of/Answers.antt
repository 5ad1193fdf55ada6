use Rattle.std.proofs.Common.{[], map, ap, sym, ◌∙◌, arith}
use Rattle.std.specs.Prelude.{if◌then◌else◌}
use Rattle.array_text.proofs.WritesLaws.{writes_failed, writes_same, writes_then}
use Rattle.schedule_laws.specs.Layout.{reads_in, vertices_in}
use Rattle.schedule_laws.specs.Texts.{read_lines}
use Rattle.machine_runs.specs.PlainPlays.{report_with}
use Rattle.machine_runs.proofs.RoundLaws.{told_are}
use Rattle.machine_runs.proofs.WorldLaws.{of_run, some_sites}
use Rattle.machine_runs.proofs.rounds.write_round_of.Goals as goal

pub site-requires : goal.site-requires
site-requires g c =
    let reached = c.tells_reached.ensures c.requires.on in (
      omega arith,
      some_sites reached.one_run.ends reached.split c.args.cluster.now.world
          (of_run g.S.Site.work g.S.Site.sound g.met.S.Site.lawful c.args.cluster.now.world reached),
    )

pub returns-in_err-write_report : goal.returns-in_err-write_report
returns-in_err-write_report g c =
    let w = c.args.cluster.now.world in
    let work = g.S.Site.work in
    let lines = c.args.lines.now in
    writes_same (told_are lines work w c.report-report.result _
    (c.report-report.ensures ∙ sym (ap (report_with work) c.site.ensures)))
    (writes_failed (if lines.reads then read_lines c.report-report.result.round 0
    (map (reads_in work w) (vertices_in w)) else []) c.from_residual.result c.from_residual.ensures.0
    c.in_err-write_report.ensures)

pub returns : goal.returns
returns g c =
    let w = c.args.cluster.now.world in
    let work = g.S.Site.work in
    writes_same (told_are c.args.lines.now work w c.report-report.result _
    (c.report-report.ensures ∙ sym (ap (report_with work) c.site.ensures)))
    (writes_then _ c.in_ok-write_report.ensures c.write_asked.ensures)
