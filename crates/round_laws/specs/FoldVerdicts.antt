-- A take of the ideal verdict leaves a machine as the source's run says.
use Rattle.std.specs.Prelude.{◌≡◌, ◌≢◌, ℕ}
use Rattle.vert_base.specs.Letters.{Letter}
use Rattle.circulant_plan.specs.declared.spot.Spot.TheVariants.{Begin}
use Rattle.circulant_plan.specs.Names.{verdict_name}
use Rattle.body_shape.specs.Refresh.{IsWords}
use Rattle.symple_face.specs.CoreSight.{total_count}
use Rattle.symple_face.specs.CoreWork.{core_take}
use Rattle.symple_face.specs.Ideal.{ideal_body}
use Rattle.symple_face.specs.Source.{Source, stand}
use Rattle.symple_face.specs.State.{State}
use Rattle.round_laws.specs.IsIdeal.{IsIdeal}

-- at the begin of its round a machine other than 0 takes the ruling and the totals, which are words
abbrev pub TakesVerdicts : Type 0
TakesVerdicts =
    (src : Source) (m : ℕ) (s : State) (l : Letter) → m ≢ 0 → IsIdeal src m s → s.at.spot ≡ Begin s.at.round →
    IsWords (total_count src.split) (stand src s.at.round).totals →
    l.name ≡ verdict_name s.at.round m → l.body ≡ ideal_body src l.name → IsIdeal src m (core_take s l)
