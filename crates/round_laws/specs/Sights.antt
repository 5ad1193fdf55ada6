-- What a machine sees of the source's round, by its own rows and those that it was told.
use Rattle.std.specs.Prelude.{◌≡◌, ◌≢◌, ◌<◌, ℕ, true, length, map}
use Rattle.std.specs.List.{AllByRecursion}
use Rattle.vert_base.specs.Neighbours.{ins_of}
use Rattle.vert_eval.specs.Rounds.{Scene, row_at}
use Rattle.chunk_split.specs.Chunks.{AreEnds, vertices_of}
use Rattle.circulant_plan.specs.Names.{refresh_name}
use Rattle.circulant_plan.specs.Ring.{lies_in, members_with}
use Rattle.body_shape.specs.Refresh.{HasFields, plain_row, refresh_body}
use Rattle.symple_face.specs.CoreSight.{field_count, held_body, known_totals, own_sight, sight_at}
use Rattle.symple_face.specs.Parts.{chunk_vertices, refresh_list}
use Rattle.symple_face.specs.PartsOf.{part_of}
use Rattle.symple_face.specs.State.{State}
use Rattle.round_laws.specs.Scans.{Sees}
use Rattle.round_laws.specs.Seen.{SeesScene, SeesVertex}

-- machine m holds its part of a scene's graph, and the scene's rows of its own vertices and totals
pub record StandsIn (m : ℕ) (s : State) (sc : Scene) : Type 0 where
  pub machine : m < length sc.graph.ends
  pub part : s.part ≡ part_of sc.graph.ends sc.draws sc.graph.edges m
  pub sized : sc.graph.vertices ≡ vertices_of sc.graph.ends
  pub rows : s.rows ≡ map (row_at sc.rows) (chunk_vertices sc.graph.ends m)
  pub totals : known_totals s ≡ sc.totals

-- machine d told it the rows of its vertices that have an edge from here, which are words
pub record IsTold (m d : ℕ) (s : State) (sc : Scene) : Type 0 where
  pub machine : d < length sc.graph.ends
  pub other : d ≢ m
  pub body : held_body s (refresh_name sc.round d m) ≡
      refresh_body (map (λ v. plain_row (row_at sc.rows v)) (refresh_list sc.graph.ends d m sc.graph.edges))
  pub words : AllByRecursion (λ v. HasFields (field_count s.split) (plain_row (row_at sc.rows v)))
      (refresh_list sc.graph.ends d m sc.graph.edges)

-- a machine sees its own vertices
abbrev pub OwnAreSeen : Type 0
OwnAreSeen =
    (most m : ℕ) (s : State) (sc : Scene) → AreEnds most sc.graph.ends → StandsIn m s sc →
    SeesScene (own_sight s sc.round) sc
    × ((v : ℕ) → lies_in sc.graph.ends m v ≡ true → SeesVertex (own_sight s sc.round) sc v)

-- and what a scan of its own chunk looks at
abbrev pub OwnScansAreSeen : Type 0
OwnScansAreSeen =
    (most m v : ℕ) (s : State) (sc : Scene) → AreEnds most sc.graph.ends → StandsIn m s sc →
    lies_in sc.graph.ends m v ≡ true →
    Sees (sight_at s sc.round m) sc v (members_with sc.graph.ends m (ins_of sc.graph.vertices sc.graph.edges v))

-- and what a scan of another chunk looks at, whose rows it was told
abbrev pub ToldScansAreSeen : Type 0
ToldScansAreSeen =
    (most m d v : ℕ) (s : State) (sc : Scene) → AreEnds most sc.graph.ends → StandsIn m s sc → IsTold m d s sc →
    lies_in sc.graph.ends d v ≡ true →
    Sees (sight_at s sc.round d) sc v (members_with sc.graph.ends m (ins_of sc.graph.vertices sc.graph.edges v))
