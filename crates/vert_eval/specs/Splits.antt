-- The law of split loops: a loop over a list that is cut into parts.
use Rattle.std.specs.Prelude.{◌≡◌, ℕ, List, ◌++◌, map}
use Rattle.std.specs.List.{flat_map}
use Rattle.vert_base.specs.declared.graph.Edge.{Edge}
use Rattle.vert_tree.specs.declared.statement.Stmt.{Stmt}
use Rattle.vert_eval.specs.declared.environment.Env.{Env}
use Rattle.vert_eval.specs.Runs.{followed_by, in_turn}
use Rattle.vert_eval.specs.Rounds.{Scene, loop}

-- the loop over two parts is the loop over the first, and then, unless that broke, the loop over the
-- second in the environment that the first left
abbrev pub SplitsInTwo : Scene → List Stmt → Type 0
SplitsInTwo s body =
    (first second : List Edge) (env : Env) →
    loop s body (first ++ second) env ≡ followed_by (loop s body first env) (loop s body second)

-- the loop over parts, each with a number, is the loops over them in turn
abbrev pub SplitsInParts : Scene → List Stmt → Type 0
SplitsInParts s body =
    (part : ℕ → List Edge) (numbers : List ℕ) (env : Env) →
    loop s body (flat_map part numbers) env ≡ in_turn (map (λ m. loop s body (part m)) numbers) env
