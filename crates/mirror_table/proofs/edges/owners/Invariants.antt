-- The owners so far are those of the vertices that were counted.
use Rattle.std.proofs.Common.{◌≡◌, ℕ, ◌<◌, length, get_or}
use Rattle.chunk_split.specs.Chunks.{Holds}
use Rattle.mirror_table.proofs.edges.owners.Given as goal

abbrev pub invariant-loop-v : goal.invariant-loop-v
invariant-loop-v l = record {
  len : length l.owners.items ≡ l.v;
  holds : (k : ℕ) → k < l.v → Holds l.cuts k (get_or l.owners.items k 0);
}
