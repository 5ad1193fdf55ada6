-- Runs: the round that is judged next, events under a function of rulings, and the states that possible events leave.
use Rattle.std.specs.Prelude.{ℕ, ◌+◌, ◌&&◌, Bool, true, Option, Some, None, List, [], ◌∷◌, slice_get, ◌≡◌, ◌≢◌, ◌≤◌}
use Rattle.vert_base.specs.declared.message.Event.{Event}
use Rattle.vert_base.specs.declared.value.Ruling.{Ruling}
use Rattle.vert_base.specs.declared.value.Ruling.TheVariants.{Stop}
use Rattle.circulant_plan.specs.declared.spot.Ring.{Ring}
use Rattle.circulant_plan.specs.Standing.{Standing}
use Rattle.circulant_plan.specs.Skeleton.{Skeleton, Blocks, is_possible, step_of, may_rule, first_skeleton, resumed_skeleton, skeleton_after, all_possible}

-- the round in which a standing is, 0 where there is none
abbrev pub round_at : Option Standing → ℕ
round_at None = 0
round_at (Some s) = s.round

-- the round that the next judge rules on: that behind the round of machine 0
abbrev pub judged_round : Skeleton → ℕ
judged_round k = round_at (slice_get k.standings 0) + 1

-- the ruling that a judge makes in this state
abbrev pub ruled : (ℕ → Ruling) → Skeleton → Ruling
ruled ruling k = ruling (judged_round k)

-- the state that a list of events leaves, where the judges rule by `ruling`
abbrev pub after : Ring → (ℕ → Ruling) → List Event → Skeleton → Skeleton
after ring ruling [] k = k
after ring ruling (e ∷ es) k = after ring ruling es (step_of ring (ruled ruling k) e k)

-- whether each event is possible in turn, where the judges rule by `ruling`
abbrev pub are_possible : Ring → Blocks → (ℕ → Ruling) → List Event → Skeleton → Bool
are_possible ring blocks ruling [] k = true
are_possible ring blocks ruling (e ∷ es) k =
    is_possible ring blocks (ruled ruling k) e k
    && are_possible ring blocks ruling es (step_of ring (ruled ruling k) e k)

-- the events with the rulings that the judges make
abbrev pub with_rulings : Ring → (ℕ → Ruling) → List Event → Skeleton → List (Event × Ruling)
with_rulings ring ruling [] k = []
with_rulings ring ruling (e ∷ es) k =
    (e, ruled ruling k) ∷ with_rulings ring ruling es (step_of ring (ruled ruling k) e k)

-- the two kinds of first states: the usual one, and the begin of a round whose mode is known and may be ruled
pub data IsFirst (ring : Ring) (blocks : Blocks) (k : Skeleton) : Type 0 where
  anew : k ≡ first_skeleton ring.machines → IsFirst ring blocks k
  again : (q : ℕ) (ruling : Ruling) → 1 ≤ q → may_rule blocks q ruling ≡ true → ruling ≢ Stop →
      k ≡ resumed_skeleton ring.machines q ruling → IsFirst ring blocks k

-- the state that possible events leave from a first state
pub record IsReached (ring : Ring) (blocks : Blocks) (k : Skeleton) : Type 0 where
  pub some : 1 ≤ ring.machines
  pub few : ring.machines ≤ 64
  pub first : Skeleton
  pub is_first : IsFirst ring blocks first
  pub events : List (Event × Ruling)
  pub were_possible : all_possible ring blocks events first ≡ true
  pub here : k ≡ skeleton_after ring events first
