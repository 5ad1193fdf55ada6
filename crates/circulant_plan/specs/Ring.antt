-- The ring of machines: who works on which chunk in which step, and the halves of a chunk.
use Rattle.std.specs.Prelude.{ℕ, zero, suc, ◌+◌, ◌-◌, ◌/◌, ◌%◌, ◌≡◌, ◌<◌, ◌≤◌, ◌&&◌, ◌||◌, Bool, false, nat_le, nat_lt, List, length, slice_index}
use Rattle.std.specs.List.Sorted.{IsNonDecreasing}
use Rattle.std.specs.List.{filter, flat_map, range_with_len}
use Rattle.vert_base.specs.declared.graph.Edge.{Edge}
use Rattle.vert_base.specs.Neighbours.{source}
use Rattle.vert_base.specs.Ends.{start_of}

-- the machine that works on chunk d in step s, of p machines
abbrev pub order_of : ℕ → ℕ → ℕ → ℕ
order_of d s p = (d + 1 + s) % p

-- the chunk that machine m works on in step s, of p machines
abbrev pub chunk_of : ℕ → ℕ → ℕ → ℕ
chunk_of m s p = (m + p - 1 - s) % p

-- the machines after and before m in the ring of p
abbrev pub after_machine : ℕ → ℕ → ℕ
after_machine m p = (m + 1) % p

abbrev pub before_machine : ℕ → ℕ → ℕ
before_machine m p = (m + p - 1) % p

-- where the chunk from a to b is cut: its first half is the greater one
abbrev pub cut_of : ℕ → ℕ → ℕ
cut_of a b = a + (b - a + 1) / 2

-- half h of the chunk from a to b
abbrev pub half_of : ℕ → ℕ → ℕ → ℕ × ℕ
half_of a b zero = (a, cut_of a b)
half_of a b (suc h) = (cut_of a b, b)

-- these are the ends of p chunks that stand side by side up to vertex n
pub record AreEndsUpTo (n p : ℕ) (ends : List ℕ) : Type 0 where
  pub some : 1 ≤ p
  pub count : length ends ≡ p
  pub rises : IsNonDecreasing ends
  pub last : slice_index ends (p - 1) ≡ n

-- vertex v lies in chunk m
abbrev pub IsInChunk : List ℕ → ℕ → ℕ → Type 0
IsInChunk ends m v = (start_of ends m ≤ v) × (v < slice_index ends m)

-- the same as a test
abbrev pub lies_in : List ℕ → ℕ → ℕ → Bool
lies_in ends m v = nat_le (start_of ends m) v && nat_lt v (slice_index ends m)

-- the members that lie with machine m: those whose source is in its chunk
abbrev pub members_with : List ℕ → ℕ → List Edge → List Edge
members_with ends m members = filter (λ e. lies_in ends m (source e)) members

-- the members that the machines of chunk d read in `count` steps from step s on, in this order
abbrev pub members_by_steps : List ℕ → ℕ → ℕ → ℕ → ℕ → List Edge → List Edge
members_by_steps ends p d s count members =
    flat_map (λ step. members_with ends (order_of d step p) members) (range_with_len s count)

-- whether vertex v lies with one of the machines of the first `count` steps on chunk d
abbrev pub lies_early : List ℕ → ℕ → ℕ → ℕ → ℕ → Bool
lies_early ends p d zero v = false
lies_early ends p d (suc count) v = lies_early ends p d count v || lies_in ends (order_of d count p) v

-- each machine works on each chunk in one step, its owner in the last, and after each machine comes the next of
-- the ring
pub record IsCirculant (p : ℕ) : Type 0 where
  pub within : (d s : ℕ) → order_of d s p < p
  pub chunk : (d s : ℕ) → d < p → s < p → chunk_of (order_of d s p) s p ≡ d
  pub machine : (m s : ℕ) → m < p → s < p → order_of (chunk_of m s p) s p ≡ m
  pub owner : (d : ℕ) → d < p → order_of d (p - 1) p ≡ d
  pub after : (d s : ℕ) → d < p → s + 1 < p → after_machine (order_of d s p) p ≡ order_of d (s + 1) p
  pub before : (d s : ℕ) → d < p → s + 1 < p → before_machine (order_of d (s + 1) p) p ≡ order_of d s p
