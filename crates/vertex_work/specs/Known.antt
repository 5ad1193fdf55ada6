-- The vertices whose degrees a part holds.
use Rattle.std.specs.Prelude.{◌≡◌, ◌==◌, ◌<◌, ℕ, List, if◌then◌else◌, length, slice_index, slice_index_or}
use Rattle.vert_base.specs.declared.graph.VertexId.{VertexId}
use Rattle.symple_face.specs.declared.degree.Degree.{Degree}
use Rattle.symple_face.specs.CoreSight.{degree_of}
use Rattle.symple_face.specs.Parts.{PlainPart, chunk_vertices, refresh_list}
use Rattle.machine_parts.specs.Neighbours.{no_degree}

abbrev pub number : VertexId → ℕ
number v = v.0

-- those of chunk k
abbrev pub known_in : PlainPart → ℕ → List ℕ
known_in part k =
    if k == part.at.machine then chunk_vertices part.ends k else refresh_list part.ends k part.at.machine part.scan

-- the degrees of some vertices, side by side with them
pub record AreDegreesOf (part : PlainPart) (vertices : List ℕ) (degrees : List Degree) : Type 0 where
  pub each : length degrees ≡ length vertices
  pub at : (i : ℕ) → i < length vertices →
      slice_index_or degrees i no_degree ≡ degree_of part (slice_index vertices i)
