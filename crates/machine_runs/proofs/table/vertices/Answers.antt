use Rattle.std.proofs.Common.{◌≡◌, ℕ, ◌-◌, sym, ap, ◌∙◌, arith}
use Rattle.std.specs.Prelude.{slice_index}
use Rattle.chunk_split.specs.Chunks.{vertices_of}
use Rattle.symple_face.specs.Parts.{PlainPart}
use Rattle.machine_runs.proofs.WorldLaws.{of_run, some_sites, vertex_count}
use Rattle.machine_runs.proofs.table.vertices.Goals as goal

pub site-requires : goal.site-requires
site-requires g c =
    let reached = c.tells_reached.ensures c.requires.on in (
      omega arith,
      some_sites reached.one_run.ends reached.split c.args.cluster.now.world
          (of_run g.S.Site.work g.S.Site.sound g.met.S.Site.lawful c.args.cluster.now.world reached),
    )

pub returns : goal.returns
returns g c =
    let w = c.args.cluster.now.world in
    let reached = c.tells_reached.ensures c.requires.on in
    let run = of_run g.S.Site.work g.S.Site.sound g.met.S.Site.lawful w reached in
    let same : c.part.result.now.cuts ≡ reached.one_run.ends =
    ap (λ (part : PlainPart). part.ends) c.part.ensures.part ∙ run.ends_are 0 (g.S.Site.state c.site.result.now)
    c.site.ensures in
    c.end.ensures.value
    ∙ ap (λ (k : ℕ). slice_index c.part.result.now.cuts (k - 1)) c.count.ensures.value
    ∙ ap vertices_of same
    ∙ sym (vertex_count reached.one_run.ends reached.split w run (g.S.Site.state c.site.result.now) c.site.ensures)
