-- The messages of a machine by the table of actions.
use Rattle.std.specs.Prelude.{◌≡◌, ◌≤◌, ◌<◌, ◌↔◌, ◌⊎◌, ℕ, Bool, true, false}
use Rattle.std.specs.List.{Contains}
use Rattle.vert_base.specs.declared.message.Name.{Name}
use Rattle.vert_base.specs.declared.value.Ruling.{Ruling}
use Rattle.vert_base.specs.declared.value.Ruling.TheVariants.{Stop, Dense, Sparse}
use Rattle.circulant_plan.specs.declared.spot.Ring.{Ring}
use Rattle.circulant_plan.specs.declared.spot.Spot.{Spot}
use Rattle.circulant_plan.specs.Deliveries.{HasSpot}
use Rattle.circulant_plan.specs.Skeleton.{Blocks}
use Rattle.circulant_plan.specs.Table.{gives_of, needs_of}
use Rattle.instrument.specs.declared.split.Split.{Split}
use Rattle.symple_face.specs.Plans.{blocks_of, is_in_range, is_planned, ring_of}

-- the program has the block of a mode
abbrev pub has_block : Blocks → Ruling → Bool
has_block blocks Stop = false
has_block blocks Dense = blocks.dense
has_block blocks Sparse = blocks.sparse

-- machine m sends or takes the message at a spot of its list, where the spot's round has this ruling
abbrev pub HasMessage : Ring → ℕ → Ruling → Name → Type 0
HasMessage ring m ruling x = (spot : Spot) × HasSpot ring m ruling spot ×
    (Contains (gives_of ring m spot ruling) x ⊎ Contains (needs_of ring m spot) x)

-- it does so in some round in one of the program's modes
abbrev pub HasInSomeRound : Split → ℕ → ℕ → Name → Type 0
HasInSomeRound split p m x = (ruling : Ruling) × (has_block (blocks_of split) ruling ≡ true) ×
    HasMessage (ring_of split p) m ruling x

-- planned is what a machine sends or takes by the table of actions, with a round of its kind's range
abbrev pub PlansByTable : Type 0
PlansByTable =
    (split : Split) (p m : ℕ) (x : Name) → p ≤ 64 → m < p →
    (is_planned split p m x ≡ true) ↔ (HasInSomeRound split p m x ×
    (is_in_range (blocks_of split).limit x.kind x.round ≡ true))
