-- Where a machine stands in its list of actions, and the names that it has taken.
use Rattle.std.specs.Prelude.{◌≡◌, ◌≢◌, ℕ, ◌+◌, ◌-◌, ◌*◌, ◌<◌, ◌≤◌, ◌⊎◌, Bool, true, false, length, is_some, if◌then◌else◌, []}
use Rattle.std.specs.List.{All}
use Rattle.vert_base.specs.declared.message.Name.{Name}
use Rattle.vert_base.specs.declared.value.Ruling.{Ruling}
use Rattle.vert_base.specs.declared.value.Ruling.TheVariants.{Stop}
use Rattle.vert_base.specs.Letters.{Ascends, found}
use Rattle.circulant_plan.specs.declared.spot.Ring.{Ring}
use Rattle.circulant_plan.specs.declared.spot.Spot.{Spot}
use Rattle.circulant_plan.specs.declared.spot.Spot.TheVariants.{Tell, Judge, Begin, Scan, Close, Over}
use Rattle.circulant_plan.specs.Deliveries.{HasSpot}
use Rattle.circulant_plan.specs.Names.{verdict_name}
use Rattle.circulant_plan.specs.Remaining.{way_left}
use Rattle.circulant_plan.specs.Skeleton.{Blocks, is_over, may_rule}
use Rattle.circulant_plan.specs.Standing.{Standing, place_of, round_of}
use Rattle.double_buffer.specs.Held.{AreOfRound, Held}
use Rattle.double_buffer.specs.Taking.{CanTake}
use Rattle.symple_face.specs.Lawful.{CanRun, is_begin}
use Rattle.symple_face.specs.Plans.{blocks_of, ring_of}
use Rattle.symple_face.specs.State.{State, has_taken, machine, p_of}

-- what a machine knows at a spot, where it has taken the verdicts of some rounds: the ruling of a round that it has
-- begun, and at the begin, once it has the verdict, that the round takes place
abbrev pub IsKnown : Blocks → ℕ → Ruling → (ℕ → Bool) → Spot → Type 0
IsKnown blocks m ruling knows Tell = Unit {0}
IsKnown blocks m ruling knows (Judge r) = Unit {0}
IsKnown blocks m ruling knows (Begin r) =
    ((m ≡ 0) ⊎ (knows r ≡ true)) → (ruling ≢ Stop) × (may_rule blocks r ruling ≡ true)
IsKnown blocks m ruling knows (Scan r s h) = m ≢ 0 → knows r ≡ true
IsKnown blocks m ruling knows (Close r dense) = m ≢ 0 → knows r ≡ true
IsKnown blocks m ruling knows Over = Unit {0}

-- machine m stands in its list of actions, by the ruling of its round
pub record IsWalk (ring : Ring) (blocks : Blocks) (m : ℕ) (ruling : Ruling) (s : Standing) (knows : ℕ → Bool) : Type 0
  where
    pub place : m < ring.machines
    pub few : ring.machines ≤ 64
    pub round : s.round ≡ round_of s.round s.spot
    pub has : HasSpot ring m ruling s.spot
    pub low : is_over s.spot ≡ false → place_of s ≤ 256 * (blocks.limit + 1)
    pub known : IsKnown blocks m ruling knows s.spot

-- whether the verdict of a round was taken
abbrev pub knows : State → ℕ → ℕ → Bool
knows s m r = has_taken s (verdict_name r m)

abbrev pub Walks : State → Type 0
Walks s = IsWalk (ring_of s.split (p_of s)) (blocks_of s.split) (machine s) s.ruling s.at (knows s (machine s))

abbrev pub way_of : State → ℕ
way_of s = way_left (blocks_of s.split) s.at

-- the names that were taken in the round
pub record AreTaken (s : State) (names : Held) : Type 0 where
  pub machines : names.machines ≡ p_of s
  pub has : (x : Name) → is_some (found x names.letters) ≡ has_taken s x
  pub together : is_over s.at.spot ≡ false → AreOfRound s.at.round (machine s) names.letters
  pub planned : All (λ y. CanTake (p_of s) y.name) names.letters
  pub ascends : Ascends names.letters

-- a machine on its way, with these names
pub record Stands (sound : State → Type 0) (s : State) (names : Held) : Type 0 where
  pub can_run : CanRun s.part s.split
  pub is_sound : sound s
  pub walks : Walks s
  pub taken : AreTaken s names

abbrev pub no_names : Held → Held
no_names names = record names { letters = [] }

-- where a round begins, the names of the one before are dropped
abbrev pub names_from : State → Held → Held
names_from s names = if is_begin s.at.spot then no_names names else names

-- a bound of the actions and messages that are left: no machine can take more than 768 messages in a round
abbrev pub chances : State → Held → ℕ
chances s names = 769 * way_of s + (768 - length names.letters)

-- a bound of the bytes that were used: no message has 2^33 bytes
abbrev pub IsLow : State → Held → ℕ → Type 0
IsLow s names at = is_over s.at.spot ≡ false → at ≤ 8589934592 * (768 * s.at.round + length names.letters)
