-- The degrees of a part as tests that read each once.
use Rattle.std.specs.Prelude.{ℕ, ◌==◌, ◌&&◌, ◌||◌, not, Bool, true, false, List, [], ◌∷◌, length}
use Rattle.vert_base.specs.declared.graph.Edge.{Edge}
use Rattle.vert_base.specs.Neighbours.{bucket, source, target}
use Rattle.circulant_plan.specs.Ring.{lies_in}
use Rattle.symple_face.specs.declared.degree.Degree.{Degree}

-- the degrees are those of these vertices, one after another
abbrev pub are_known : List Degree → List ℕ → Bool
are_known [] [] = true
are_known [] (v ∷ vs) = false
are_known (d ∷ ds) [] = false
are_known (d ∷ ds) (v ∷ vs) = v == d.id.0 && are_known ds vs

-- a degree of an own vertex counts the edges of the lists
abbrev pub is_counted : List ℕ → ℕ → List Edge → List Edge → Degree → Bool
is_counted ends m ins outs d =
    not (lies_in ends m d.id.0)
    || (d.ins == length (bucket target d.id.0 ins) && d.outs == length (bucket source d.id.0 outs))
