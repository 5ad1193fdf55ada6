-- A machine that has told its first rows goes on as the source's run says.
use Rattle.std.specs.Prelude.{◌≡◌, ℕ}
use Rattle.circulant_plan.specs.Standing.{first_standing}
use Rattle.symple_face.specs.CoreWork.{core_go}
use Rattle.symple_face.specs.Source.{Source}
use Rattle.symple_face.specs.State.{State}
use Rattle.round_laws.specs.IsIdeal.{IsIdeal}

abbrev pub TellsAndGoesOn : Type 0
TellsAndGoesOn = (src : Source) (m : ℕ) (s : State) → IsIdeal src m s → s.at ≡ first_standing →
    IsIdeal src m (core_go s)
