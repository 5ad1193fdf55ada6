-- The keys under which a sparse round combines the words of a vertex.
use Rattle.std.specs.Prelude.{◌≡◌, ◌<◌, ◌≤◌, ℕ, List}
use Rattle.std.specs.List.{flat_map, range_with_len}
use Rattle.vert_base.specs.declared.graph.Edge.{Edge}
use Rattle.vert_base.specs.Neighbours.{bucket, ins_of, source, turned}
use Rattle.symple_face.specs.CoreSparse.{key_of}

abbrev pub KeysBelow : Type 0
KeysBelow = (n t u : ℕ) → t ≤ n → u < n → key_of n t u < n

-- the members by ascending key are the members in the order of the loop
abbrev pub KeysRise : Type 0
KeysRise =
    (n t v : ℕ) (edges : List Edge) → t ≤ n →
    flat_map (λ k. bucket (λ e. key_of n t (source e)) k (turned t (ins_of n edges v))) (range_with_len 0 n)
    ≡ turned t (ins_of n edges v)
