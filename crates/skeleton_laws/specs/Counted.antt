-- How many events a complete run has.
use Rattle.std.specs.Prelude.{◌==◌, ◌≡◌, ◌≢◌, ◌≤◌, ℕ, ◌+◌, ◌-◌, ◌*◌, if◌then◌else◌, true, List, [], ◌∷◌, length}
use Rattle.vert_base.specs.declared.message.Event.{Event}
use Rattle.vert_base.specs.declared.message.Event.TheVariants.{Go, Take}
use Rattle.vert_base.specs.declared.value.Ruling.{Ruling}
use Rattle.vert_base.specs.declared.value.Ruling.TheVariants.{Stop, Dense, Sparse}
use Rattle.circulant_plan.specs.Runs.{with_rulings}
use Rattle.circulant_plan.specs.Choosing.{plain_events}
use Rattle.circulant_plan.specs.declared.spot.Ring.{Ring}
use Rattle.circulant_plan.specs.Counts.{goes_in, takes_in}
use Rattle.circulant_plan.specs.Skeleton.{Skeleton, Blocks, first_skeleton, skeleton_after, is_complete}

-- how often the machines act, and how many messages they take
abbrev pub one_go : Event → ℕ
one_go (Go m) = 1
one_go (Take x) = 0

abbrev pub one_take : Event → ℕ
one_take (Go m) = 0
one_take (Take x) = 1

abbrev pub goes_made : List (Event × Ruling) → ℕ
goes_made [] = 0
goes_made (e ∷ es) = one_go e.0 + goes_made es

abbrev pub takes_made : List (Event × Ruling) → ℕ
takes_made [] = 0
takes_made (e ∷ es) = one_take e.0 + takes_made es

-- the sum over rounds with their rulings
abbrev pub over_rounds : (ℕ → Ruling → ℕ) → List (ℕ × Ruling) → ℕ
over_rounds f [] = 0
over_rounds f (made ∷ more) = f made.0 made.1 + over_rounds f more

-- the rounds n, n - 1, .., 1 with their modes
abbrev pub AreRounds : List (ℕ × Ruling) → ℕ → Type 0
AreRounds [] n = n ≡ 0
AreRounds (made ∷ more) n = (made.0 ≡ n) × (1 ≤ n) × (made.1 ≢ Stop) × AreRounds more (n - 1)

-- the events of a round
abbrev pub events_in : Ring → Ruling → ℕ
events_in ring Stop = 0
events_in ring Dense =
    let p = ring.machines in
    p * (2 * p + 2) + 1 + ((if ring.carry then 5 else 3) * p * (p - 1) + 2 * (p - 1))
events_in ring Sparse =
    let p = ring.machines in
    2 * p + 1 + (p * (p - 1) + 2 * (p - 1))

-- a complete run has `last` rounds, within the limit, and then a stop; before them and in each of them are as
-- many goes and takes as the table says
pub record IsCounted (ring : Ring) (blocks : Blocks) (es : List (Event × Ruling)) (k : Skeleton) : Type 0 where
  pub last : ℕ
  pub rounds : List (ℕ × Ruling)
  pub within : last ≤ blocks.limit
  pub rulings : k.rulings ≡ (last + 1, Stop) ∷ rounds
  pub each : AreRounds rounds last
  pub goes : goes_made es ≡ ring.machines + 1 + over_rounds (goes_in ring) rounds
  pub takes : takes_made es ≡ 2 * (ring.machines - 1) + over_rounds (takes_in ring) rounds
  pub events :
      length es ≡ ring.machines + 1 + 2 * (ring.machines - 1) + over_rounds (λ r ruling. events_in ring ruling) rounds

abbrev pub CompleteRunsAreCounted : Type 0
CompleteRunsAreCounted =
    (ring : Ring) (blocks : Blocks) (es : List (Event × Ruling)) → 1 ≤ ring.machines → ring.machines ≤ 64 →
    is_complete ring blocks es (first_skeleton ring.machines) ≡ true →
    IsCounted ring blocks es (skeleton_after ring es (first_skeleton ring.machines))

-- every complete run with these rulings, the last one first, has so many goes and takes
abbrev pub RunsHave : Ring → List (ℕ × Ruling) → ℕ → ℕ → Type 0
RunsHave ring rulings goes takes =
    (blocks : Blocks) (es : List (Event × Ruling)) → is_complete ring blocks es (first_skeleton ring.machines) ≡ true →
    (skeleton_after ring es (first_skeleton ring.machines)).rulings ≡ rulings →
    (goes_made es ≡ goes) × (takes_made es ≡ takes)

abbrev pub carrying_ring : ℕ → Ring
carrying_ring p = record { machines = p; carry = true }

-- the mode of a round by a list of modes from round 1 on, and then a stop
abbrev pub mode_at : List Ruling → ℕ → Ruling
mode_at [] r = Stop
mode_at (mode ∷ more) r = if r == 1 then mode else mode_at more (r - 1)

-- a program with both blocks, and as many rounds as modes
abbrev pub blocks_for : List Ruling → Blocks
blocks_for modes = record { limit = length modes; dense = true; sparse = true }

-- the plain events from the first state, with the rulings of the judges
abbrev pub plain_run : Ring → List Ruling → ℕ → List (Event × Ruling)
plain_run ring modes bound =
    let first = first_skeleton ring.machines in
    with_rulings ring (mode_at modes) (plain_events ring (blocks_for modes) (mode_at modes) bound first) first

-- the plain events by these modes are complete, and have so many goes and takes
pub record PlainRunHas (ring : Ring) (modes : List Ruling) (goes takes : ℕ) : Type 0 where
  pub complete :
      is_complete ring (blocks_for modes) (plain_run ring modes (goes + takes)) (first_skeleton ring.machines) ≡ true
  pub goes_are : goes_made (plain_run ring modes (goes + takes)) ≡ goes
  pub takes_are : takes_made (plain_run ring modes (goes + takes)) ≡ takes

-- two dense rounds and a sparse one by one machine, the same by two, and two dense rounds by three
pub record WorkedRuns : Type 0 where
  pub one_machine : RunsHave (carrying_ring 1) ((4, Stop) ∷ (3, Sparse) ∷ (2, Dense) ∷ (1, Dense) ∷ []) 15 0
  pub two_machines : RunsHave (carrying_ring 2) ((4, Stop) ∷ (3, Sparse) ∷ (2, Dense) ∷ (1, Dense) ∷ []) 34 30
  pub three_machines : RunsHave (carrying_ring 3) ((3, Stop) ∷ (2, Dense) ∷ (1, Dense) ∷ []) 54 72
  pub one_plain : PlainRunHas (carrying_ring 1) (Dense ∷ Dense ∷ Sparse ∷ []) 15 0
  pub two_plain : PlainRunHas (carrying_ring 2) (Dense ∷ Dense ∷ Sparse ∷ []) 34 30
  pub three_plain : PlainRunHas (carrying_ring 3) (Dense ∷ Dense ∷ []) 54 72
