-- Loops over neighbours that leave and emit the same in every order.
use Rattle.std.specs.Prelude.{◌≡◌, List, [], ◌∷◌}
use Rattle.std.specs.List.Sorted.{IsPermutation}
use Rattle.vert_base.specs.declared.graph.Edge.{Edge}
use Rattle.vert_tree.specs.declared.statement.Stmt.{Stmt}
use Rattle.vert_eval.specs.declared.environment.Env.{Env}
use Rattle.vert_eval.specs.Rounds.{Scene, loop}
use Rattle.vert_eval.specs.Runs.{Ran}

-- equal but for the neighbour at hand and the marks of locals
abbrev pub SameButNeighbour : Env → Env → Type 0
SameButNeighbour a b = b ≡ record a { other = b.other; other_row = b.other_row; touched = b.touched }

-- runs that leave the same but for the neighbour, and emit the same in some order
pub record Agree (a b : Ran) : Type 0 where
  pub env : SameButNeighbour a.env b.env
  pub emitted : IsPermutation a.emitted b.emitted

-- a loop body whose loop agrees over every order of its members
abbrev pub LoopAgrees : List Stmt → Type 0
LoopAgrees body = (s : Scene) (members others : List Edge) (env : Env) → IsPermutation members others →
    Agree (loop s body members env) (loop s body others env)

-- a loop body whose first two members may change places
abbrev pub FlipsTwo : List Stmt → Type 0
FlipsTwo body = (s : Scene) (e f : Edge) (members : List Edge) (env : Env) →
    Agree (loop s body (e ∷ f ∷ members) env) (loop s body (f ∷ e ∷ members) env)

-- runs that agree and end in the same way
pub record AgreeToEnd (a b : Ran) : Type 0 where
  pub agree : Agree a b
  pub flow : b.flow ≡ a.flow

-- a loop body that does the same on two members, whichever comes first
abbrev pub FlipsPairs : List Stmt → Type 0
FlipsPairs body = (s : Scene) (e f : Edge) (env : Env) →
    AgreeToEnd (loop s body (e ∷ f ∷ []) env) (loop s body (f ∷ e ∷ []) env)
