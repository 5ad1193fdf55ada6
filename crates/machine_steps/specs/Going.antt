-- How a machine goes on from a spot.
use Rattle.std.specs.Prelude.{◌-◌, ◌&&◌, ℕ, List, ◌∷◌, map, nat_lt}
use Rattle.vert_base.specs.declared.message.Name.{Name}
use Rattle.circulant_plan.specs.Names.{dep_name, update_name}
use Rattle.circulant_plan.specs.Ring.{after_machine, before_machine, chunk_of}
use Rattle.instrument.specs.declared.split.Split.{Split}
use Rattle.vert_base.specs.Letters.{Letter}
use Rattle.circulant_plan.specs.declared.spot.Spot.{Spot}
use Rattle.circulant_plan.specs.Skeleton.{acting_ruling}
use Rattle.circulant_plan.specs.Standing.{next_standing}
use Rattle.circulant_plan.specs.Table.{gives_of, name_if}
use Rattle.symple_face.specs.CoreJudge.{judge_at}
use Rattle.symple_face.specs.CoreWork.{acted, moved, sent_at}
use Rattle.symple_face.specs.Plans.{ring_of}
use Rattle.symple_face.specs.State.{State, machine, p_of}

-- to the spot that is next by the ruling known, where nothing else is left to do
abbrev pub onward : State → State
onward s = moved (next_standing (ring_of s.split (p_of s)) (machine s) s.ruling s.at) s

-- what the action of a spot leaves, and what it sends
abbrev pub gone_from : State → Spot → State
gone_from s spot =
    moved
    (next_standing (ring_of s.split (p_of s)) (machine s) (acting_ruling (judge_at s spot) s.ruling spot) s.at)
    (acted s spot)

abbrev pub sent_from : State → Spot → List Letter
sent_from s spot =
    map (λ x. record { name = x; body = sent_at s spot x })
    (gives_of (ring_of s.split (p_of s)) (machine s) spot (acting_ruling (judge_at s spot) s.ruling spot))

-- the loop states that a scan of a half needs
abbrev pub needed_of : Split → ℕ → ℕ → ℕ → ℕ → ℕ → List Name
needed_of split p m r step h =
    name_if ((ring_of split p).carry && nat_lt 0 step) (dep_name r (step - 1) h (before_machine m p) m)

-- what a scan of a half of another chunk sends, by the bodies of its update and its loop states
abbrev pub half_sent : Split → ℕ → ℕ → ℕ → ℕ → ℕ → List ℕ → List ℕ → List Letter
half_sent split p m r step h update states =
    record { name = update_name r step h m (chunk_of m step p); body = update }
    ∷ map (λ x. let l : Letter = record { name = x; body = states } in l)
    (name_if (ring_of split p).carry (dep_name r step h m (after_machine m p)))
