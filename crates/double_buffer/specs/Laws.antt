-- What the places are for: each message that a machine needs is one that it can take, with others of its round.
use Rattle.std.specs.Prelude.{◌≡◌, ◌<◌, ℕ, List}
use Rattle.std.specs.List.{Contains}
use Rattle.vert_base.specs.declared.message.Name.{Name}
use Rattle.circulant_plan.specs.declared.spot.Ring.{Ring}
use Rattle.circulant_plan.specs.declared.spot.Spot.{Spot}
use Rattle.circulant_plan.specs.Spots.{IsSpotOf}
use Rattle.circulant_plan.specs.Standing.{round_of}
use Rattle.circulant_plan.specs.Table.{needs_of}
use Rattle.vert_base.specs.Letters.{Letter, placed, without}
use Rattle.double_buffer.specs.Taking.{CanTake}
use Rattle.double_buffer.specs.Held.{AreOfRound}

-- a machine of the ring can take it, in the round of the spot
pub record IsForSpot (ring : Ring) (m : ℕ) (spot : Spot) (x : Name) : Type 0 where
  pub one : CanTake ring.machines x
  pub to : x.to ≡ m
  pub round : x.round ≡ round_of 0 spot

abbrev pub NeedsCanBeTaken : Type 0
NeedsCanBeTaken =
    (ring : Ring) (m : ℕ) (spot : Spot) (x : Name) → m < ring.machines → IsSpotOf ring spot →
    Contains (needs_of ring m spot) x → IsForSpot ring m spot x

-- messages of one round for one machine stay so, when another such is put in and when one is taken out
abbrev pub StaysOfRound : Type 0
StaysOfRound =
    (round to : ℕ) (m : Letter) (x : Name) (ms : List Letter) → AreOfRound round to ms →
    (m.name.round ≡ round → m.name.to ≡ to → AreOfRound round to (placed m ms)) × AreOfRound round to (without x ms)
