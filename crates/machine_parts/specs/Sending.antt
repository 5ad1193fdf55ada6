-- What own vertices send in a sparse round.
use Rattle.std.specs.Prelude.{◌≡◌, ◌<◌, ℕ, ℤ, List, [], Option, Some, IsTrue, drop, length, slice_set}
use Rattle.std.specs.List.{list_all}
use Rattle.vert_base.specs.declared.value.Row.{Row}
use Rattle.vert_tree.specs.declared.program.Sparse.{Sparse}
use Rattle.vert_tree.specs.Places.{Counts, expr_placed}
use Rattle.vert_eval.specs.declared.environment.Env.{Env}
use Rattle.body_shape.specs.Places.{there}
use Rattle.body_shape.specs.Push.{push_body}
use Rattle.symple_face.specs.declared.degree.Degree.{Degree}
use Rattle.symple_face.specs.CoreSparse.{sends_at}
use Rattle.machine_parts.specs.Counting.{own_env}

-- what the own vertex at a place sends
abbrev pub own_sends : Sparse → List Row → List Degree → ℕ → Env → ℕ → Option (List ℤ)
own_sends sparse rows degrees start env place = sends_at (Some sparse) (own_env rows degrees start env place)

-- each name of a test and of the sends has its place
pub record AreSendsPlaced (counts : Counts) (sparse : Sparse) : Type 0 where
  pub test : IsTrue (expr_placed counts sparse.when_test)
  pub sends : IsTrue (list_all (λ d. expr_placed counts d.value) sparse.sends.items)

-- by these bytes neither a vertex nor a later one sends, and by those the vertex sends what is told
abbrev pub TellsSends : List ℕ → ℕ → Option (List ℤ) → List ℕ → Type 0
TellsSends old vertex told new = (sends : List (Option (List ℤ))) → old ≡ push_body sends → vertex < length sends →
    there (drop vertex sends) ≡ [] → new ≡ push_body (slice_set sends vertex told)
