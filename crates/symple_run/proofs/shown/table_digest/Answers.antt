use Rattle.std.proofs.Common.{◌≡◌, ◌++◌, List, [], ℕ, Some, ap, subst, ◌∙◌, arith}
use Rattle.std.proofs.lemmas.Option.{same_Some}
use Rattle.array_text.specs.Tables.{header_text}
use Rattle.instrument.specs.declared.split.Split.{Split}
use Rattle.sha2.specs.Hashers.{Holds256}
use Rattle.sha2.specs.Sha256.{sha256}
use Rattle.symple_run.specs.Played.{rows_of}
use Rattle.machine_runs.proofs.WorldLaws.{of_run, some_sites, table_is}
use Rattle.symple_run.proofs.shown.table_digest.Goals as goal

pub site-requires : goal.site-requires
site-requires g c =
    let reached = c.tells_reached.ensures c.requires.on in (
      omega arith,
      some_sites reached.one_run.ends reached.split c.args.cluster.now.world
          (of_run g.S.Site.work g.S.Site.sound g.met.S.Site.lawful c.args.cluster.now.world reached),
    )

pub returns : goal.returns
returns g c =
    let w = c.args.cluster.now.world in
    let work = g.S.Site.work in
    let first = g.S.Site.state c.site.result.now in
    let split : c.deref.result.now ≡ first.split = c.deref.ensures ∙ c.part.ensures.split in
    let head = header_text c.deref.result.now.program.program in
    let held : c.write_header.new.out.bytes ≡ head = same_Some c.write_header.new.out.bytes head
    (c.in-Ok.ensures.whole ∙ ap (λ (bytes : List ℕ). Some (bytes ++ head)) (ap (λ t. t.bytes) c.new-text.ensures)) in
    let begun = subst (λ (bytes : List ℕ). Holds256 c.hash_text.new.hasher bytes) held
    (c.hash_text.ensures.hashed [] c.new-hasher.ensures) in
    c.finalize.ensures (head ++ rows_of work w) (c.in_ok-hash_rows.ensures head begun)
    ∙ ap sha256 (ap (λ (s : Split). header_text s.program.program ++ rows_of work w) split
    ∙ table_is work w first c.site.ensures)
