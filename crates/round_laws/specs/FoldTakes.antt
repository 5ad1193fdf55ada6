-- A take of a message with its ideal body leaves a machine as the source's run says.
use Rattle.std.specs.Prelude.{◌≡◌, ◌⊎◌, ℕ}
use Rattle.vert_base.specs.declared.message.NameKind.TheVariants as kind
use Rattle.vert_base.specs.Letters.{Letter}
use Rattle.symple_face.specs.CoreWork.{core_take}
use Rattle.symple_face.specs.Ideal.{ideal_body}
use Rattle.symple_face.specs.Source.{Source}
use Rattle.symple_face.specs.State.{State}
use Rattle.round_laws.specs.IsIdeal.{IsIdeal}

-- a refresh, a dep or a tally is kept until it is needed
abbrev pub TakesWhatIsKept : Type 0
TakesWhatIsKept =
    (src : Source) (m : ℕ) (s : State) (l : Letter) → IsIdeal src m s →
    (l.name.kind ≡ kind.Refresh) ⊎ ((l.name.kind ≡ kind.Dep) ⊎ (l.name.kind ≡ kind.Tally)) →
    l.body ≡ ideal_body src l.name → IsIdeal src m (core_take s l)
