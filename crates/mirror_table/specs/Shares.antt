-- What the part of a machine is made from.
use Rattle.std.specs.Prelude.{◌≡◌, ◌≤◌, ℕ, List, length, map}
use Rattle.std.specs.List.{range_with_len}
use Rattle.vert_base.specs.declared.graph.Edge.{Edge}
use Rattle.vert_base.specs.declared.limits.TheConstants.{EDGES, VERTICES}
use Rattle.vert_base.specs.Neighbours.{AreBelow}
use Rattle.chunk_split.specs.Chunks.{vertices_of}
use Rattle.symple_face.specs.declared.degree.Degree.{Degree}
use Rattle.symple_face.specs.Parts.{degree_in}
use Rattle.symple_face.specs.PartsOf.{push_of, scan_of}

-- a graph of these edges in chunks with these ends: how many edges it has, the degrees of all its vertices, and the
-- edges that machine m works on
pub record IsShare (ends : List ℕ) (edges : List Edge) (count : ℕ) (degrees : List Degree) (m : ℕ)
    (scan push : List Edge) : Type 0 where
  pub within : vertices_of ends ≤ VERTICES
  pub few : length edges ≤ EDGES
  pub below : AreBelow (vertices_of ends) edges
  pub counted : count ≡ length edges
  pub known : degrees ≡ map (degree_in edges edges) (range_with_len 0 (vertices_of ends))
  pub scanned : scan ≡ scan_of ends edges m
  pub pushed : push ≡ push_of ends edges m
