-- What a machine sees is what stands in the source's round.
use Rattle.std.specs.Prelude.{◌≡◌, ℕ, ℤ, List, Option}
use Rattle.std.specs.List.{AllByRecursion}
use Rattle.vert_base.specs.declared.graph.Edge.{Edge}
use Rattle.vert_base.specs.Neighbours.{source}
use Rattle.vert_tree.specs.declared.statement.Stmt.{Stmt}
use Rattle.vert_eval.specs.declared.environment.Env.{Env}
use Rattle.vert_eval.specs.Rounds.{Scene, env_at, indegree, loop, outdegree, row_at}
use Rattle.symple_face.specs.Sight.{Sight, seen_env, seen_loop}

-- a sight has the numbers and totals of a scene
pub record SeesScene (g : Sight) (s : Scene) : Type 0 where
  pub n : g.n ≡ s.graph.vertices
  pub round : g.round ≡ s.round
  pub draws : g.draws ≡ s.draws
  pub totals : g.totals ≡ s.totals

-- and the row and degrees of a vertex
pub record SeesVertex (g : Sight) (s : Scene) (v : ℕ) : Type 0 where
  pub row : g.row v ≡ row_at s.rows v
  pub ins : g.ins v ≡ indegree s.graph v
  pub outs : g.outs v ≡ outdegree s.graph v

-- of the source of each edge
abbrev pub SeesSources : Sight → Scene → List Edge → Type 0
SeesSources g s members = AllByRecursion (λ e. SeesVertex g s (source e)) members

-- the environment of a vertex that is seen is the source's but for the key
abbrev pub EnvironmentsAreSeen : Type 0
EnvironmentsAreSeen =
    (g : Sight) (s : Scene) (v key : ℕ) (slots : List (Option ℤ)) → SeesScene g s → SeesVertex g s v →
    seen_env g v key slots ≡ record (env_at s v slots) { key = key }

-- a loop over members that are seen is the source's
abbrev pub LoopsAreSeen : Type 0
LoopsAreSeen =
    (g : Sight) (s : Scene) (body : List Stmt) (members : List Edge) (env : Env) → SeesSources g s members →
    seen_loop g body members env ≡ loop s body members env
