use Rattle.std.proofs.Common.{◌<◌, ◌≤◌, ◌++◌, List, ℕ, length, slice_get, sym, ap, subst, ◌∙◌, arith, append_assoc, append-nil}
use Rattle.schedule_laws.specs.Layout.{vertices_in}
use Rattle.sha2.specs.Hashers.{Holds256}
use Rattle.symple_run.specs.Played.{line_of, lines_to}
use Rattle.machine_runs.proofs.WorldLaws.{first_site, lines_all, lines_more, lines_none, of_run}
use Rattle.symple_run.proofs.shown.hash_rows.Goals as goal

pub vertices-init : goal.vertices-init
vertices-init g c =
    let w = c.args.cluster.now.world in
    let work = g.S.Site.work in
    let reached = c.tells_reached.ensures c.requires.on in
    let first = first_site reached.one_run.ends reached.split w
    (of_run work g.S.Site.sound g.met.S.Site.lawful w reached) in
    let none = lines_none work w 0 first.0 first.1 (omega arith) in (
      c.requires.empty,
      λ m holds. subst (λ (bytes : List ℕ). Holds256 c.args.hasher.now bytes)
          (sym (append-nil m) ∙ ap (λ (bytes : List ℕ). m ++ bytes) none) holds,
    )

pub vertices-preserved : goal.vertices-preserved
vertices-preserved g c =
    let w = c.args.cluster.now.world in
    let work = g.S.Site.work in
    let k = c.vertices.v in
    let reached = c.tells_reached.ensures c.requires.on in
    let first = first_site reached.one_run.ends reached.split w
    (of_run work g.S.Site.sound g.met.S.Site.lawful w reached) in
    let lt : k < length (vertices_in w) =
    subst (λ (n : ℕ). k < n) c.vertices-v-end.ensures c.vertices-test.true in
    let so_far = lines_to work w k (slice_get w.sites 0) in
    let more = lines_more work w k first.0 first.1 lt in (
      c.in_ok-hash_line.ensures.empty,
      λ m holds. subst (λ (bytes : List ℕ). Holds256 c.hash_line.new.hasher bytes)
          (append_assoc m so_far (line_of work w k) ∙ ap (λ (bytes : List ℕ). m ++ bytes) more)
          (c.in_ok-hash_line.ensures.hashed (m ++ so_far) (c.vertices.invariant.1 m holds)),
    )

pub returns : goal.returns
returns g c =
    let w = c.args.cluster.now.world in
    let work = g.S.Site.work in
    let k = c.vertices.v in
    let reached = c.tells_reached.ensures c.requires.on in
    let first = first_site reached.one_run.ends reached.split w
    (of_run work g.S.Site.sound g.met.S.Site.lawful w reached) in
    let all : length (vertices_in w) ≤ k =
    omega (arith, c.vertices-v-end.ensures, c.vertices.auto.v-end, c.vertices-test.false) in
    let whole = lines_all work w k first.0 first.1 all in
    λ m holds. subst (λ (bytes : List ℕ). Holds256 c.vertices.hasher (m ++ bytes)) whole
    (c.vertices.invariant.1 m holds)
