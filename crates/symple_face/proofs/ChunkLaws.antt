-- Where the chunks lie, and which vertices lie in them.
use Rattle.std.proofs.Common.{◌≡◌, ℕ, zero, suc, ◌-◌, ◌<◌, ◌≤◌, true, false, ◌&&◌, List, length, refl, arith}
use Rattle.std.specs.Prelude.{nat_le, nat_lt, slice_index}
use Rattle.std.proofs.lemmas.Bool.{and_parts, leb-true, ltb-true}
use Rattle.std.proofs.lemmas.Bool.Decides.{nat_tests}
use Rattle.chunk_split.specs.Chunks.{AreEnds, Holds, vertices_of}
use Rattle.chunk_split.proofs.ChunkLaws.{holder_parts, parts_alone, start_rises}
use Rattle.circulant_plan.specs.Ring.{lies_in}
use Rattle.vert_base.specs.Ends.{start_of}

pub lies_is : (a b v : ℕ) → a ≤ v → v < b → (nat_le a v && nat_lt v b) ≡ true
lies_is a b v low high = grind (arith, nat_tests)

pub lies_not_below : (a b v : ℕ) → v < a → (nat_le a v && nat_lt v b) ≡ false
lies_not_below a b v low = grind (arith, nat_tests)

pub lies_not_above : (a b v : ℕ) → b ≤ v → (nat_le a v && nat_lt v b) ≡ false
lies_not_above a b v high = grind (arith, nat_tests)

pub lies_low : (ends : List ℕ) (m v : ℕ) → lies_in ends m v ≡ true → start_of ends m ≤ v
lies_low ends m v h = leb-true _ _ (and_parts (nat_le (start_of ends m) v) (nat_lt v (slice_index ends m)) h).0

pub lies_high : (ends : List ℕ) (m v : ℕ) → lies_in ends m v ≡ true → v < slice_index ends m
lies_high ends m v h = ltb-true _ _ (and_parts (nat_le (start_of ends m) v) (nat_lt v (slice_index ends m)) h).1

module _ (most : ℕ) (ends : List ℕ) (are : AreEnds most ends) where
  pub chunk_rises : (m : ℕ) → m < length ends → start_of ends m ≤ slice_index ends m
  chunk_rises m lt = let low = start_rises ends m are.2 lt in omega arith

  pub chunk_within : (m : ℕ) → m < length ends → slice_index ends m ≤ vertices_of ends
  chunk_within m lt = are.2 m (length ends - 1) 0 (omega arith) (omega arith)

  pub lies_within : (m v : ℕ) → m < length ends → lies_in ends m v ≡ true → v < vertices_of ends
  lies_within m v lt h = let high = lies_high ends m v h in let top = chunk_within m lt in omega arith

  holds : (m v : ℕ) → m < length ends → lies_in ends m v ≡ true → Holds ends v m
  holds m v lt h = let low = lies_low ends m v h in (lt, omega arith, lies_high ends m v h)

  -- a vertex lies in one chunk
  pub one_chunk : (k m v : ℕ) → k < length ends → m < length ends → lies_in ends k v ≡ true → lies_in ends m v ≡ true
      → k ≡ m
  one_chunk k m v kin min at_k at_m = parts_alone ends v k m (holder_parts ends v m are.2 (holds m v min at_m))
      (holds k v kin at_k)
