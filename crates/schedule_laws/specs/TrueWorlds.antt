-- A world that is as the source's run says.
use Rattle.std.specs.Prelude.{◌≡◌, ℕ, Some, slice_get}
use Rattle.std.specs.List.{AllByRecursion}
use Rattle.symple_face.specs.Cluster.{World}
use Rattle.symple_face.specs.Ideal.{ideal_body}
use Rattle.symple_face.specs.Source.{Source}
use Rattle.symple_face.specs.State.{State}
use Rattle.round_laws.specs.IsIdeal.{IsIdeal}

-- each machine holds what the source's run says, and each message under way has its ideal body
pub record IsTrueWorld (src : Source) (w : World) : Type 0 where
  pub machines : (m : ℕ) (s : State) → slice_get w.sites m ≡ Some s → IsIdeal src m s
  pub letters : AllByRecursion (λ l. l.body ≡ ideal_body src l.name) w.under_way
