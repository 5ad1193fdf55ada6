-- A cluster as its callers see it, and the worlds that possible events leave.
use Rattle.std.specs.Prelude.{◌≡◌, ◌≢◌, ◌≤◌, ◌==◌, ◌&&◌, not, ℕ, Bool, true, false, Some, is_some, List, [], length, map, slice_get}
use Rattle.std.specs.List.{All}
use Rattle.vert_base.specs.declared.message.Name.{Name}
use Rattle.vert_base.specs.declared.message.Event.{Event}
use Rattle.vert_base.specs.declared.value.Ruling.{Ruling}
use Rattle.vert_base.specs.declared.value.Ruling.TheVariants.{Stop}
use Rattle.vert_base.specs.Letters.{Letter, found}
use Rattle.vert_base.specs.Names.{same_name}
use Rattle.circulant_plan.specs.declared.spot.Spot.TheVariants.{Begin}
use Rattle.circulant_plan.specs.Names.{verdict_name}
use Rattle.circulant_plan.specs.Skeleton.{may_rule}
use Rattle.circulant_plan.specs.Standing.{standing_at}
use Rattle.instrument.specs.declared.split.Split.{Split}
use Rattle.symple_face.specs.Cluster.{IsOneRun, World, after, all_possible, first_world}
use Rattle.symple_face.specs.Lawful.{CanRun}
use Rattle.symple_face.specs.Parts.{PlainPart}
use Rattle.symple_face.specs.Plans.{blocks_of}
use Rattle.symple_face.specs.State.{State}
use Rattle.symple_face.specs.Work.{Work}

-- the worlds of a cluster, and whether want of memory has ended it
pub record Driven : Type 0 where
  pub world : World
  pub ended : Bool

-- machines of any kind, and the messages under way
abbrev pub world_of : {X : Type 0} → (X → State) → List X → List Letter → World
world_of state xs flight = record { sites = map state xs; under_way = flight }

-- machine m stands where a round begins that was ruled, and of messages it has taken the round's verdict alone
pub record BeginsRound (sound : State → Type 0) (split : Split) (parts : List PlainPart) (round : ℕ) (ruling : Ruling)
    (m : ℕ) (s : State) : Type 0 where
  pub part : slice_get parts m ≡ Some s.part
  pub split_is : s.split ≡ split
  pub at : s.at ≡ standing_at round (Begin round)
  pub ruling_is : s.ruling ≡ ruling
  pub held : (x : Name) → is_some (found x s.held) ≡ (not (m == 0) && same_name (verdict_name round m) x)
  pub is_sound : sound s

-- every machine begins a round, and nothing is under way
pub record IsRestarted (sound : State → Type 0) (split : Split) (parts : List PlainPart) (round : ℕ) (ruling : Ruling)
    (w : World) : Type 0 where
  pub late : 1 ≤ round
  pub mode : ruling ≢ Stop
  pub may : may_rule (blocks_of split) round ruling ≡ true
  pub still : w.under_way ≡ []
  pub count : length w.sites ≡ length parts
  pub each : (m : ℕ) (s : State) → slice_get w.sites m ≡ Some s → BeginsRound sound split parts round ruling m s

-- the two kinds of first worlds
pub data IsFirst (work : Work) (sound : State → Type 0) (split : Split) (parts : List PlainPart) (w : World) : Type 0
  where
    anew : w ≡ first_world work split parts → IsFirst work sound split parts w
    again : (round : ℕ) (ruling : Ruling) → IsRestarted sound split parts round ruling w →
        IsFirst work sound split parts w

-- a world that possible events leave from a first one
pub record IsReached (work : Work) (sound : State → Type 0) (w : World) : Type 0 where
  pub split : Split
  pub parts : List PlainPart
  pub one_run : IsOneRun parts
  pub can_run : All (λ part. CanRun part split) parts
  pub first : World
  pub is_first : IsFirst work sound split parts first
  pub events : List Event
  pub were_possible : all_possible work first events ≡ true
  pub here : w ≡ after work first events

-- there are at most 64 machines, and until want of memory ends it, it is in a world that possible events leave
pub record IsDriven (work : Work) (sound : State → Type 0) (d : Driven) : Type 0 where
  pub few : length d.world.sites ≤ 64
  pub reached : d.ended ≡ false → IsReached work sound d.world
