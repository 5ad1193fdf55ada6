use Rattle.std.proofs.Common.{◌≡◌, map, length, ap, arith}
use Rattle.std.proofs.lemmas.List.{length-map}
use Rattle.schedule_laws.specs.Layout.{row_in, vertices_in}
use Rattle.symple_face.specs.Work.{PlainStart}
use Rattle.machine_runs.proofs.WorldLaws.{of_run, some_sites, vertex_count}
use Rattle.symple_run.proofs.images.keep_image.Goals as goal

pub site-requires : goal.site-requires
site-requires g c =
    let w = c.args.cluster.now.world in
    let reached = c.tells_reached.ensures c.requires.on in (
      omega arith,
      some_sites reached.one_run.ends reached.split w (of_run g.S.Site.work g.S.Site.sound g.met.S.Site.lawful w
          reached),
    )

pub write_image-requires-clause-rows : goal.write_image-requires-clause-rows
write_image-requires-clause-rows g c =
    let w = c.args.cluster.now.world in
    let work = g.S.Site.work in
    let reached = c.tells_reached.ensures c.requires.on in
    let run = of_run work g.S.Site.sound g.met.S.Site.lawful w reached in
    let first = g.S.Site.state c.site.result.now in
    let rows : c.gather.new.start.rows.items ≡ map (row_in work w) (vertices_in w) =
    ap (λ (s : PlainStart). s.rows) c.in_ok-gather.ensures in
    let count = vertex_count reached.one_run.ends reached.split w run first c.site.ensures in
    omega (arith, ap length rows, length-map (vertices_in w) (row_in work w), count, reached.one_run.within)
