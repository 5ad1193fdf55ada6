-- Small runs, worked out by hand.
use Rattle.std.proofs.Common.{◌≡◌, ℕ, true, refl, Some, None, [], ◌∷◌, false}
use Rattle.vert_base.specs.declared.value.Ruling.TheVariants.{Stop, Sparse, Dense}
use Rattle.vert_base.specs.declared.value.Ruling.{Ruling}
use Rattle.vert_base.specs.declared.message.Event.TheVariants.{Go, Take}
use Rattle.vert_base.specs.declared.message.Event.{Event}
use Rattle.circulant_plan.specs.Remaining.{events_left}
use Rattle.circulant_plan.specs.Choosing.{choices_of, plain_of, missing_of}
use Rattle.circulant_plan.specs.Runs.{after, are_possible}
use Rattle.circulant_plan.specs.Skeleton.{Skeleton, Blocks, first_skeleton, resumed_skeleton, is_finished, is_complete}
use Rattle.circulant_plan.specs.Names.{push_name, tally_name, verdict_name, refresh_name, dep_name, update_name}
use Rattle.circulant_plan.specs.declared.spot.Ring.{Ring}

abbrev both : Blocks
both = record { limit = 1; dense = true; sparse = true }

abbrev one : Ring
one = record { machines = 1; carry = true }

abbrev two : Ring
two = record { machines = 2; carry = true }

abbrev go_0 : Event × Ruling
go_0 = (Go 0, Stop)

abbrev go_1 : Event × Ruling
go_1 = (Go 1, Stop)

-- one machine and one dense round: tell, judge, begin, two scans, close, judge
one_machine : is_complete one both (go_0 ∷ (Go 0, Dense) ∷ go_0 ∷ go_0 ∷ go_0 ∷ go_0 ∷ go_0 ∷ [])
    (first_skeleton 1) ≡ true
one_machine = refl

-- a judge may not begin a round past the limit
past_limit : is_complete one both
    (go_0 ∷ (Go 0, Dense) ∷ go_0 ∷ go_0 ∷ go_0 ∷ go_0 ∷ (Go 0, Sparse) ∷ go_0 ∷ go_0 ∷ go_0 ∷ [])
    (first_skeleton 1) ≡ false
past_limit = refl

-- two machines and no round: three goes and two takes
no_round : is_complete two both
    (go_0 ∷ go_1 ∷ (Take (tally_name 0 1), Stop) ∷ go_0 ∷ (Take (verdict_name 1 1), Stop) ∷ [])
    (first_skeleton 2) ≡ true
no_round = refl

-- the judge waits for the tally
waits : is_complete two both
    (go_0 ∷ go_1 ∷ go_0 ∷ (Take (tally_name 0 1), Stop) ∷ (Take (verdict_name 1 1), Stop) ∷ [])
    (first_skeleton 2) ≡ false
waits = refl

-- two machines begin round 1 again as a sparse one: a push comes before its receiver needs it
resumed : is_complete two both
    (go_0 ∷ (Take (push_name 1 0 1), Stop) ∷ go_1 ∷ (Take (push_name 1 1 0), Stop) ∷ go_1 ∷ go_0 ∷
    (Take (tally_name 1 1), Stop) ∷ go_0 ∷ (Take (verdict_name 2 1), Stop) ∷ [])
    (resumed_skeleton 2 1 Sparse) ≡ true
resumed = refl

-- two machines and one dense round with a carry, from its begin: 13 goes and 12 takes
dense_round : is_complete two both
    (go_0 ∷ go_1 ∷ (Take (refresh_name 1 0 1), Stop) ∷
    (Take (refresh_name 1 1 0), Stop) ∷ go_0 ∷ go_0 ∷ go_1 ∷ (Take (dep_name 1 0 0 0 1), Stop) ∷ go_1
    ∷ go_1 ∷ (Take (dep_name 1 0 1 0 1), Stop) ∷ go_1 ∷ (Take (dep_name 1 0 1 1 0), Stop) ∷
    (Take (dep_name 1 0 0 1 0), Stop) ∷ go_0 ∷ go_0
    ∷ (Take (update_name 1 0 0 1 0), Stop) ∷ (Take (update_name 1 0 1 1 0), Stop) ∷
    (Take (update_name 1 0 0 0 1), Stop) ∷ (Take (update_name 1 0 1 0 1), Stop)
    ∷ go_0 ∷ go_1 ∷ (Take (tally_name 1 1), Stop) ∷ go_0 ∷ (Take (verdict_name 2 1), Stop) ∷ [])
    (resumed_skeleton 2 1 Dense) ≡ true
dense_round = refl

-- where every judge stops the run
abbrev stops : ℕ → Ruling
stops r = Stop

-- at first both can go
first_choices : choices_of two both Stop (first_skeleton 2) ≡ Go 0 ∷ Go 1 ∷ []
first_choices = refl

first_missing : missing_of two (first_skeleton 2) ≡ Some (Go 0)
first_missing = refl

-- then the judge waits for the tally
abbrev told : Skeleton
told = after two stops (Go 0 ∷ Go 1 ∷ []) (first_skeleton 2)

told_choices : choices_of two both Stop told ≡ Take (tally_name 0 1) ∷ []
told_choices = refl

-- no judge may rule a round above the limit
late_choices : choices_of two both Sparse
    (after two stops (Go 0 ∷ Go 1 ∷ Take (tally_name 1 1) ∷ []) (resumed_skeleton 2 1 Sparse)) ≡ Take
    (push_name 1 0 1) ∷ Take (push_name 1 1 0) ∷ []
late_choices = refl

-- a run of no round, to its end
abbrev ended : Skeleton
ended = after two stops (Go 0 ∷ Go 1 ∷ Take (tally_name 0 1) ∷ Go 0 ∷ Take (verdict_name 1 1) ∷ []) (first_skeleton 2)

ended_possible : are_possible two both stops
    (Go 0 ∷ Go 1 ∷ Take (tally_name 0 1) ∷ Go 0 ∷ Take (verdict_name 1 1) ∷ []) (first_skeleton 2) ≡ true
ended_possible = refl

ended_finished : is_finished ended ≡ true
ended_finished = refl

ended_missing : missing_of two ended ≡ None
ended_missing = refl

ended_plain : plain_of two both Stop ended ≡ None
ended_plain = refl

ended_left : events_left both ended ≡ 0
ended_left = refl
