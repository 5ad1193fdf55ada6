use Rattle.std.proofs.Common.{◌≡◌, ◌<◌, List, ℕ, sym, ap, subst, ◌∙◌, arith}
use Rattle.chunk_split.specs.Chunks.{Holds, vertices_of}
use Rattle.symple_face.specs.Parts.{PlainPart}
use Rattle.machine_runs.proofs.WorldLaws.{ends_in_is, of_run, own_lies, owner_is, row_is, some_sites, vertex_count}
use Rattle.symple_run.proofs.images.row_of.Goals as goal

pub site-requires : goal.site-requires
site-requires g c =
    let reached = c.tells_reached.ensures c.requires.on in (
      omega arith,
      some_sites reached.one_run.ends reached.split c.args.cluster.now.world
          (of_run g.S.Site.work g.S.Site.sound g.met.S.Site.lawful c.args.cluster.now.world reached),
    )

pub owner-requires : goal.owner-requires
owner-requires g c =
    let w = c.args.cluster.now.world in
    let reached = c.tells_reached.ensures c.requires.on in
    let run = of_run g.S.Site.work g.S.Site.sound g.met.S.Site.lawful w reached in
    let first = g.S.Site.state c.site.result.now in
    let same : c.part-part.result.now.cuts ≡ reached.one_run.ends =
    ap (λ (part : PlainPart). part.ends) c.part-part.ensures.part ∙ run.ends_are 0 first c.site.ensures in (
      omega arith,
      subst (λ (es : List ℕ). c.args.v.0 < vertices_of es) (sym same)
          (subst (λ (n : ℕ). c.args.v.0 < n) (vertex_count reached.one_run.ends reached.split w run first
          c.site.ensures)
          c.requires.there),
    )

pub site-requires-2 : goal.site-requires-2
site-requires-2 g c =
    let w = c.args.cluster.now.world in
    let reached = c.tells_reached.ensures c.requires.on in
    let run = of_run g.S.Site.work g.S.Site.sound g.met.S.Site.lawful w reached in
    let first = g.S.Site.state c.site.result.now in
    let same : c.part-part.result.now.cuts ≡ reached.one_run.ends =
    ap (λ (part : PlainPart). part.ends) c.part-part.ensures.part ∙ run.ends_are 0 first c.site.ensures in
    let holds = subst (λ (es : List ℕ). Holds es c.args.v.0 c.owner.result) same c.owner.ensures.holds in
    (omega arith, subst (λ (n : ℕ). c.owner.result < n) (sym run.count) holds.0)

pub row-requires : goal.row-requires
row-requires g c =
    let w = c.args.cluster.now.world in
    let reached = c.tells_reached.ensures c.requires.on in
    let run = of_run g.S.Site.work g.S.Site.sound g.met.S.Site.lawful w reached in
    let first = g.S.Site.state c.site.result.now in
    let it = g.S.Site.state c.site-2.result.now in
    let same : c.part-part.result.now.cuts ≡ reached.one_run.ends =
    ap (λ (part : PlainPart). part.ends) c.part-part.ensures.part ∙ run.ends_are 0 first c.site.ensures in
    own_lies c.part-part.result.now.cuts it.part.ends c.args.v.0 c.owner.result _ c.owner.ensures.holds
    (run.ends_are c.owner.result it c.site-2.ensures ∙ sym same) (run.number c.owner.result it c.site-2.ensures)

pub returns : goal.returns
returns g c =
    let w = c.args.cluster.now.world in
    let work = g.S.Site.work in
    let v = c.args.v.0 in
    let reached = c.tells_reached.ensures c.requires.on in
    let run = of_run work g.S.Site.sound g.met.S.Site.lawful w reached in
    let ends = reached.one_run.ends in
    let first = g.S.Site.state c.site.result.now in
    let it = g.S.Site.state c.site-2.result.now in
    let same : c.part-part.result.now.cuts ≡ ends =
    ap (λ (part : PlainPart). part.ends) c.part-part.ensures.part ∙ run.ends_are 0 first c.site.ensures in
    let there : v < vertices_of ends =
    subst (λ (n : ℕ). v < n) (vertex_count ends reached.split w run first c.site.ensures) c.requires.there in
    let mine = owner_is ends v c.owner.result run.are there
    (subst (λ (es : List ℕ). (m : ℕ) → Holds es v m → m ≡ c.owner.result) same c.owner.ensures.alone) in
    c.row.ensures ∙ sym (row_is work w ends v c.owner.result it (ends_in_is ends reached.split w run first
    c.site.ensures)
    mine c.site-2.ensures)
