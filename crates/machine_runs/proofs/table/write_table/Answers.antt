use Rattle.std.proofs.Common.{◌≡◌, ◌++◌, ap, ◌∙◌, arith}
use Rattle.array_text.specs.Tables.{header_text}
use Rattle.array_text.proofs.WritesLaws.{writes_failed, writes_same, writes_then}
use Rattle.instrument.specs.declared.split.Split.{Split}
use Rattle.machine_runs.specs.PlainPlays.{rows_of}
use Rattle.machine_runs.proofs.WorldLaws.{of_run, some_sites, table_is}
use Rattle.machine_runs.proofs.table.write_table.Goals as goal

pub site-requires : goal.site-requires
site-requires g c =
    let reached = c.tells_reached.ensures c.requires.on in (
      omega arith,
      some_sites reached.one_run.ends reached.split c.args.cluster.now.world
          (of_run g.S.Site.work g.S.Site.sound g.met.S.Site.lawful c.args.cluster.now.world reached),
    )

pub returns-in_err-write_header : goal.returns-in_err-write_header
returns-in_err-write_header g c =
    let w = c.args.cluster.now.world in
    let work = g.S.Site.work in
    let first = g.S.Site.state c.site.result.now in
    let split : c.deref.result.now ≡ first.split = c.deref.ensures ∙ c.part.ensures.split in
    writes_same
    (ap (λ (s : Split). header_text s.program.program ++ rows_of work w) split ∙ table_is work w first c.site.ensures)
    (writes_failed (rows_of work w) c.from_residual.result c.from_residual.ensures.0 c.in_err-write_header.ensures)

pub returns : goal.returns
returns g c =
    let w = c.args.cluster.now.world in
    let work = g.S.Site.work in
    let first = g.S.Site.state c.site.result.now in
    let split : c.deref.result.now ≡ first.split = c.deref.ensures ∙ c.part.ensures.split in
    writes_same
    (ap (λ (s : Split). header_text s.program.program ++ rows_of work w) split ∙ table_is work w first c.site.ensures)
    (writes_then _ c.in_ok-write_header.ensures c.write_rows.ensures)
