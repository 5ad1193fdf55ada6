-- What is true of a machine of a run, and stays so whatever it does.
use Rattle.std.specs.Prelude.{◌≡◌, ◌≢◌, ◌<◌, ◌≤◌, ◌⊎◌, ℕ, true, false, List}
use Rattle.std.specs.List.{AllByRecursion, Contains}
use Rattle.vert_base.specs.declared.message.Name.{Name}
use Rattle.vert_base.specs.declared.message.NameKind.TheVariants as kind
use Rattle.vert_base.specs.declared.value.Ruling.{Ruling}
use Rattle.vert_base.specs.declared.value.Ruling.TheVariants as ruling
use Rattle.vert_base.specs.Letters.{Letter}
use Rattle.circulant_plan.specs.Deliveries.{HasSpot, needing_spot, place_at, sending_spot}
use Rattle.circulant_plan.specs.Skeleton.{is_over}
use Rattle.circulant_plan.specs.Standing.{Standing, place_of}
use Rattle.circulant_plan.specs.Table.{gives_of}
use Rattle.circulant_plan.specs.declared.spot.Ring.{Ring}
use Rattle.symple_face.specs.declared.action.Action.TheVariants.{Ready}
use Rattle.symple_face.specs.CoreSight.{known}
use Rattle.symple_face.specs.CoreWork.{core_go, core_take}
use Rattle.symple_face.specs.Ideal.{ideal_body, machines_of}
use Rattle.symple_face.specs.Plans.{ring_of}
use Rattle.symple_face.specs.Source.{Source, stand}
use Rattle.symple_face.specs.State.{IsTakeable, State, action_of}
use Rattle.round_laws.specs.FoldBegins.{IsPushName}
use Rattle.round_laws.specs.IsIdeal.{IsIdeal, awaits_begin, is_open}
use Rattle.round_laws.specs.Sent.{SendsIdeal}
use Rattle.work_laws.specs.Sound.{core_sound}
use Rattle.schedule_laws.specs.Runs.{IsSourceRun}

-- the ring of a run
abbrev pub ring_in : Source → Ring
ring_in src = ring_of src.split (machines_of src)

-- a push that is held is one of the round, which is sparse
abbrev pub PushesAreHeld : Source → ℕ → ℕ → List Letter → Type 0
PushesAreHeld src m round held =
    AllByRecursion
    (λ l. l.name.kind ≡ kind.Push → ((stand src round).ruling ≡ ruling.Sparse) × IsPushName src m round l.name) held

-- what is true of machine m: it is ideal, and its spot and what it holds are of its round
pub record IsTrue (src : Source) (m : ℕ) (s : State) : Type 0 where
  pub ideal : IsIdeal src m s
  -- a run that goes on at a later round has no state of an earlier one
  pub begun : (src.base ≡ 1) ⊎ (src.base ≤ s.at.round)
  pub has : HasSpot (ring_in src) m (stand src s.at.round).ruling s.at.spot
  -- behind the begin of a round its verdict is held
  pub knows : is_open s.at.spot ≡ true → awaits_begin s.at.spot ≡ false → known s ≡ true
  -- a push is held in a sparse round alone
  pub pushes : is_over s.at.spot ≡ false → PushesAreHeld src m s.at.round s.held

-- a letter comes in its turn: its receiver isn't past its need, and its sender sends it by the ruling of its round
pub record IsInTurn (src : Source) (at : Standing) (x : Name) : Type 0 where
  pub not_past : place_of at ≤ place_at (needing_spot (machines_of src) x)
  pub sent : x.kind ≢ kind.Verdict → 1 ≤ x.round →
      let mode : Ruling = (stand src x.round).ruling in
      HasSpot (ring_in src) x.from mode (sending_spot mode x)
      × Contains (gives_of (ring_in src) x.from (sending_spot mode x) mode) x

-- a machine that is ready acts
abbrev pub GoesOn : Type 0
GoesOn =
    (src : Source) (m : ℕ) (s : State) → IsSourceRun src → m < machines_of src → core_sound s → IsTrue src m s →
    action_of s ≡ Ready → IsTrue src m (core_go s) × SendsIdeal src s

-- or takes an ideal message in its turn
abbrev pub TakesOn : Type 0
TakesOn =
    (src : Source) (m : ℕ) (s : State) (l : Letter) → IsSourceRun src → m < machines_of src → core_sound s →
    IsTrue src m s → IsTakeable s l → IsInTurn src s.at l.name → l.body ≡ ideal_body src l.name →
    IsTrue src m (core_take s l)
