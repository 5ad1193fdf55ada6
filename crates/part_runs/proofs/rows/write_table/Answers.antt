-- The lines stand behind the header line.
use Rattle.std.proofs.Common.{ap, ◌∙◌}
use Rattle.array_text.specs.Tables.{header_text}
use Rattle.array_text.proofs.WritesLaws.{writes_failed, writes_same, writes_then}
use Rattle.instrument.specs.declared.split.Split.{Split}
use Rattle.part_runs.specs.Serving.{own_lines}
use Rattle.part_runs.proofs.rows.write_table.Goals as goal

pub returns-in_err-write_header : goal.returns-in_err-write_header
returns-in_err-write_header g c =
    writes_failed (own_lines g.S.Site.work (g.S.Site.state c.args.site.now)) c.from_residual.result
    c.from_residual.ensures.0
    (writes_same (ap (λ (split : Split). header_text split.program.program) (c.deref.ensures ∙ c.part.ensures.split))
    c.in_err-write_header.ensures)

pub returns : goal.returns
returns g c =
    writes_then c.write_lines.result
    (writes_same (ap (λ (split : Split). header_text split.program.program) (c.deref.ensures ∙ c.part.ensures.split))
    c.in_ok-write_header.ensures) c.write_lines.ensures
