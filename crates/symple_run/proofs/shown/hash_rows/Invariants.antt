use Rattle.std.proofs.Common.{◌≡◌, ◌++◌, List, [], ℕ, slice_get}
use Rattle.sha2.specs.Hashers.{Holds256}
use Rattle.symple_run.specs.Played.{lines_to}
use Rattle.symple_run.proofs.shown.hash_rows.Given as goal

-- the lines of the vertices so far are hashed
abbrev pub invariant-vertices : goal.invariant-vertices
invariant-vertices g l =
    (l.text.bytes ≡ [])
    × ((m : List ℕ) → Holds256 l.fn.hasher m → Holds256 l.hasher
    (m ++ lines_to g.S.Site.work l.cluster.world l.v (slice_get l.cluster.world.sites 0)))
