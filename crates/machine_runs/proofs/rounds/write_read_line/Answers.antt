use Rattle.std.proofs.Common.{◌≡◌, ◌<◌, List, ℕ, ◌++◌, codes, sym, ap, subst, ◌∙◌, arith}
use Rattle.array_text.specs.Reads.{sources_text}
use Rattle.array_text.proofs.WritesLaws.{writes_failed, writes_nothing, writes_same, writes_then}
use Rattle.chunk_split.specs.Chunks.{Holds, vertices_of}
use Rattle.schedule_laws.specs.Layout.{reads_by_steps, reads_in}
use Rattle.schedule_laws.specs.Texts.{read_line}
use Rattle.symple_face.specs.Parts.{PlainPart}
use Rattle.machine_runs.proofs.ReadTurns.{line_of_none, line_of_some, reads_are}
use Rattle.machine_runs.proofs.WorldLaws.{ends_in_is, of_run, owner_is, some_sites, vertex_count}
use Rattle.machine_runs.proofs.rounds.write_read_line.Goals as goal

pub site-requires : goal.site-requires
site-requires g c =
    let reached = c.tells_reached.ensures c.requires.on in (
      omega arith,
      some_sites reached.one_run.ends reached.split c.args.cluster.now.world
          (of_run g.S.Site.work g.S.Site.sound g.met.S.Site.lawful c.args.cluster.now.world reached),
    )

pub owner-chunk-requires : goal.owner-chunk-requires
owner-chunk-requires g c =
    let w = c.args.cluster.now.world in
    let reached = c.tells_reached.ensures c.requires.on in
    let run = of_run g.S.Site.work g.S.Site.sound g.met.S.Site.lawful w reached in
    let first = g.S.Site.state c.site.result.now in
    let same : c.part.result.now.cuts ≡ reached.one_run.ends =
    ap (λ (part : PlainPart). part.ends) c.part.ensures.part ∙ run.ends_are 0 first c.site.ensures in (
      omega arith,
      subst (λ (es : List ℕ). c.args.v.0 < vertices_of es) (sym same)
          (subst (λ (n : ℕ). c.args.v.0 < n) (vertex_count reached.one_run.ends reached.split w run first
          c.site.ensures)
          c.requires.there),
    )

pub has_read-requires : goal.has_read-requires
has_read-requires g c =
    let w = c.args.cluster.now.world in
    let reached = c.tells_reached.ensures c.requires.on in
    let run = of_run g.S.Site.work g.S.Site.sound g.met.S.Site.lawful w reached in
    let first = g.S.Site.state c.site.result.now in
    let same : c.part.result.now.cuts ≡ reached.one_run.ends =
    ap (λ (part : PlainPart). part.ends) c.part.ensures.part ∙ run.ends_are 0 first c.site.ensures in
    let holds = subst (λ (es : List ℕ). Holds es c.args.v.0 c.owner-chunk.result) same c.owner-chunk.ensures.holds in
    record { chunk = subst (λ (n : ℕ). c.owner-chunk.result < n) (sym run.count) holds.0 }

pub write_sources-requires : goal.write_sources-requires
write_sources-requires g c =
    let w = c.args.cluster.now.world in
    let reached = c.tells_reached.ensures c.requires.on in
    let run = of_run g.S.Site.work g.S.Site.sound g.met.S.Site.lawful w reached in
    let first = g.S.Site.state c.site.result.now in
    let same : c.part.result.now.cuts ≡ reached.one_run.ends =
    ap (λ (part : PlainPart). part.ends) c.part.ensures.part ∙ run.ends_are 0 first c.site.ensures in
    let holds = subst (λ (es : List ℕ). Holds es c.args.v.0 c.owner-chunk.result) same c.owner-chunk.ensures.holds in
    record { chunk = subst (λ (n : ℕ). c.owner-chunk.result < n) (sym run.count) holds.0 }

pub returns-then-not-has_read : goal.returns-then-not-has_read
returns-then-not-has_read g c =
    let w = c.args.cluster.now.world in
    let work = g.S.Site.work in
    let v = c.args.v.0 in
    let chunk = c.owner-chunk.result in
    let reached = c.tells_reached.ensures c.requires.on in
    let run = of_run work g.S.Site.sound g.met.S.Site.lawful w reached in
    let ends = reached.one_run.ends in
    let first = g.S.Site.state c.site.result.now in
    let same : c.part.result.now.cuts ≡ ends =
    ap (λ (part : PlainPart). part.ends) c.part.ensures.part ∙ run.ends_are 0 first c.site.ensures in
    let there : v < vertices_of ends =
    subst (λ (n : ℕ). v < n) (vertex_count ends reached.split w run first c.site.ensures) c.requires.there in
    let mine = owner_is ends v chunk run.are there
    (subst (λ (es : List ℕ). (m : ℕ) → Holds es v m → m ≡ chunk) same c.owner-chunk.ensures.alone) in
    let line : read_line c.args.round v (reads_by_steps work w chunk v) ≡ read_line c.args.round v (reads_in work w v) =
    ap (read_line c.args.round v) (reads_are work w ends v chunk
    (ends_in_is ends reached.split w run first c.site.ensures) mine) in
    writes_same (line_of_none c.args.round v (reads_by_steps work w chunk v) (sym c.if-not-has_read.true
    ∙ c.has_read.ensures) ∙ line)
    (writes_nothing g.O.Sink.held g.O.Sink.faults g.O.Sink.spare c.args.out.now)

pub returns-in_err-write_read_head : goal.returns-in_err-write_read_head
returns-in_err-write_read_head g c =
    let w = c.args.cluster.now.world in
    let work = g.S.Site.work in
    let v = c.args.v.0 in
    let chunk = c.owner-chunk.result in
    let reached = c.tells_reached.ensures c.requires.on in
    let run = of_run work g.S.Site.sound g.met.S.Site.lawful w reached in
    let ends = reached.one_run.ends in
    let first = g.S.Site.state c.site.result.now in
    let same : c.part.result.now.cuts ≡ ends =
    ap (λ (part : PlainPart). part.ends) c.part.ensures.part ∙ run.ends_are 0 first c.site.ensures in
    let there : v < vertices_of ends =
    subst (λ (n : ℕ). v < n) (vertex_count ends reached.split w run first c.site.ensures) c.requires.there in
    let mine = owner_is ends v chunk run.are there
    (subst (λ (es : List ℕ). (m : ℕ) → Holds es v m → m ≡ chunk) same c.owner-chunk.ensures.alone) in
    let line : read_line c.args.round v (reads_by_steps work w chunk v) ≡ read_line c.args.round v (reads_in work w v) =
    ap (read_line c.args.round v) (reads_are work w ends v chunk
    (ends_in_is ends reached.split w run first c.site.ensures) mine) in
    writes_same (line_of_some c.args.round v (reads_by_steps work w chunk v) (sym c.if-not-has_read.false
    ∙ c.has_read.ensures) ∙ line)
    (writes_failed (sources_text (reads_by_steps work w chunk v) ++ codes "\n") c.from_residual.result
    c.from_residual.ensures.0 c.in_err-write_read_head.ensures)

pub returns-in_err-write_sources : goal.returns-in_err-write_sources
returns-in_err-write_sources g c =
    let w = c.args.cluster.now.world in
    let work = g.S.Site.work in
    let v = c.args.v.0 in
    let chunk = c.owner-chunk.result in
    let reached = c.tells_reached.ensures c.requires.on in
    let run = of_run work g.S.Site.sound g.met.S.Site.lawful w reached in
    let ends = reached.one_run.ends in
    let first = g.S.Site.state c.site.result.now in
    let same : c.part.result.now.cuts ≡ ends =
    ap (λ (part : PlainPart). part.ends) c.part.ensures.part ∙ run.ends_are 0 first c.site.ensures in
    let there : v < vertices_of ends =
    subst (λ (n : ℕ). v < n) (vertex_count ends reached.split w run first c.site.ensures) c.requires.there in
    let mine = owner_is ends v chunk run.are there
    (subst (λ (es : List ℕ). (m : ℕ) → Holds es v m → m ≡ chunk) same c.owner-chunk.ensures.alone) in
    let line : read_line c.args.round v (reads_by_steps work w chunk v) ≡ read_line c.args.round v (reads_in work w v) =
    ap (read_line c.args.round v) (reads_are work w ends v chunk
    (ends_in_is ends reached.split w run first c.site.ensures) mine) in
    writes_same (line_of_some c.args.round v (reads_by_steps work w chunk v) (sym c.if-not-has_read.false
    ∙ c.has_read.ensures) ∙ line)
    (writes_then _ c.in_ok-write_read_head.ensures
    (writes_failed (codes "\n") c.from_residual-in_err-write_sources.result
    c.from_residual-in_err-write_sources.ensures.0 c.in_err-write_sources.ensures))

pub returns : goal.returns
returns g c =
    let w = c.args.cluster.now.world in
    let work = g.S.Site.work in
    let v = c.args.v.0 in
    let chunk = c.owner-chunk.result in
    let reached = c.tells_reached.ensures c.requires.on in
    let run = of_run work g.S.Site.sound g.met.S.Site.lawful w reached in
    let ends = reached.one_run.ends in
    let first = g.S.Site.state c.site.result.now in
    let same : c.part.result.now.cuts ≡ ends =
    ap (λ (part : PlainPart). part.ends) c.part.ensures.part ∙ run.ends_are 0 first c.site.ensures in
    let there : v < vertices_of ends =
    subst (λ (n : ℕ). v < n) (vertex_count ends reached.split w run first c.site.ensures) c.requires.there in
    let mine = owner_is ends v chunk run.are there
    (subst (λ (es : List ℕ). (m : ℕ) → Holds es v m → m ≡ chunk) same c.owner-chunk.ensures.alone) in
    let line : read_line c.args.round v (reads_by_steps work w chunk v) ≡ read_line c.args.round v (reads_in work w v) =
    ap (read_line c.args.round v) (reads_are work w ends v chunk
    (ends_in_is ends reached.split w run first c.site.ensures) mine) in
    writes_same (line_of_some c.args.round v (reads_by_steps work w chunk v) (sym c.if-not-has_read.false
    ∙ c.has_read.ensures) ∙ line)
    (writes_then _ c.in_ok-write_read_head.ensures (writes_then _ c.in_ok-write_sources.ensures c.put_all.ensures))
