-- The owner of a vertex is the one machine in whose chunk it lies.
use Rattle.std.proofs.Common.{◌≡◌, ℕ, ◌<◌, ◌≢◌, true, false, List, length, arith, ⊎_elim}
use Rattle.std.specs.Prelude.{slice_index}
use Rattle.std.proofs.lemmas.Bool.{cases_Bool}
use Rattle.chunk_split.specs.Chunks.{AreEnds, Holds}
use Rattle.circulant_plan.specs.Ring.{lies_in}
use Rattle.vert_base.specs.Ends.{start_of}
use Rattle.symple_face.proofs.ChunkLaws.{lies_is, one_chunk}

pub owner_lies : (ends : List ℕ) (v m : ℕ) → Holds ends v m → lies_in ends m v ≡ true
owner_lies ends v m holds =
    let low = holds.1 in
    let high = holds.2 in
    lies_is (start_of ends m) (slice_index ends m) v (omega arith) high

module _ (most : ℕ) (ends : List ℕ) (v m k : ℕ) where
  pub others_not : AreEnds most ends → Holds ends v m → k < length ends → k ≢ m → lies_in ends k v ≡ false
  others_not are holds lt ne =
      ⊎_elim
      (λ (at : lies_in ends k v ≡ true). absurd
      (ne (one_chunk most ends are k m v lt holds.0 at (owner_lies ends v m holds))))
      (λ (off : lies_in ends k v ≡ false). off)
      (cases_Bool (lies_in ends k v))
