-- Sums over the chunks, and over the machines of the steps.
use Rattle.std.specs.Prelude.{◌≡◌, ◌≢◌, ◌<◌, ℕ, ℤ, Bool, List, length, map, sum}
use Rattle.std.specs.List.{filter, flat_map, range_with_len}
use Rattle.vert_base.specs.declared.value.Combine.{Combine}
use Rattle.vert_base.specs.declared.value.Combine.TheVariants.{First}
use Rattle.slot_merge.specs.Combine.{total_of}
use Rattle.chunk_split.specs.Chunks.{AreEnds, vertices_of}
use Rattle.circulant_plan.specs.Ring.{order_of}
use Rattle.symple_face.specs.Parts.{chunk_vertices}

-- what f gives for each of the first n numbers
abbrev pub each : {X : Type 0} → ℕ → (ℕ → X) → List X
each n f = map f (range_with_len 0 n)

-- the vertices of all chunks, one chunk after another, are all vertices
abbrev pub ChunksCover : Type 0
ChunksCover =
    (most : ℕ) (ends : List ℕ) → AreEnds most ends →
    flat_map (chunk_vertices ends) (range_with_len 0 (length ends)) ≡ range_with_len 0 (vertices_of ends)

-- a sum over all vertices is the sum of the sums over the chunks
abbrev pub SumsByChunks : Type 0
SumsByChunks =
    (most : ℕ) (ends : List ℕ) (f : ℕ → ℕ) → AreEnds most ends →
    sum (each (length ends) (λ m. sum (map f (chunk_vertices ends m)))) ≡ sum (each (vertices_of ends) f)

-- and so of counts
abbrev pub CountsByChunks : Type 0
CountsByChunks =
    (most : ℕ) (ends : List ℕ) (test : ℕ → Bool) → AreEnds most ends →
    sum (each (length ends) (λ m. length (filter test (chunk_vertices ends m))))
    ≡ length (filter test (range_with_len 0 (vertices_of ends)))

-- and a total over all vertices is the total of the totals over the chunks
abbrev pub TotalsByChunks : Type 0
TotalsByChunks =
    (most : ℕ) (ends : List ℕ) (op : Combine) (f : ℕ → ℤ) → AreEnds most ends → op ≢ First →
    total_of op (each (length ends) (λ m. total_of op (map f (chunk_vertices ends m))))
    ≡ total_of op (each (vertices_of ends) f)

-- the machines of the steps on a chunk are all machines, so a sum over the steps is one over the machines
abbrev pub StepsAreMachines : Type 0
StepsAreMachines =
    (p d : ℕ) (f : ℕ → ℕ) → d < p → sum (each p (λ step. f (order_of d step p))) ≡ sum (each p f)

-- what the machines do at all chunks, machine by machine, is what is done step by step, chunk by chunk
abbrev pub SumsByMachines : Type 0
SumsByMachines =
    (p : ℕ) (f : ℕ → ℕ → ℕ) →
    sum (each p (λ d. sum (each p (λ step. f (order_of d step p) d)))) ≡ sum (each p (λ m. sum (each p (λ d. f m d))))
