-- The laws of the order of events.
use Rattle.std.specs.Prelude.{length, ◌*◌, ◌-◌, ◌^◌, ◌≡◌, ◌≢◌, ◌<◌, ◌≤◌, ◌+◌, ℕ, true, false, Some, None, List, [], ◌∷◌, slice_get}
use Rattle.std.specs.List.{Contains}
use Rattle.vert_base.specs.declared.message.Name.{Name}
use Rattle.vert_base.specs.declared.message.NameKind.TheVariants.{Verdict}
use Rattle.vert_base.specs.declared.message.Event.{Event}
use Rattle.vert_base.specs.declared.message.Event.TheVariants.{Go, Take}
use Rattle.vert_base.specs.declared.value.Ruling.{Ruling}
use Rattle.vert_base.specs.declared.value.Ruling.TheVariants.{Stop}
use Rattle.vert_base.specs.Names.{is_before}
use Rattle.circulant_plan.specs.Skeleton.{first_skeleton, resumed_skeleton, Skeleton, Blocks, has_name, ruling_in, may_rule, is_over, is_possible, step_of, is_finished, skeleton_after, all_possible}
use Rattle.circulant_plan.specs.Choosing.{plain_events, names_in_order, choices_of, plain_of, could_act, missing_of}
use Rattle.circulant_plan.specs.declared.spot.Ring.{Ring}
use Rattle.circulant_plan.specs.declared.spot.Spot.TheVariants.{Begin}
use Rattle.circulant_plan.specs.Table.{needs_of, gives_of}
use Rattle.circulant_plan.specs.Standing.{Standing, round_of, place_of}
use Rattle.circulant_plan.specs.Deliveries.{HasSpot, sending_spot, needing_spot, place_at}
use Rattle.circulant_plan.specs.Runs.{judged_round, after, are_possible, with_rulings, IsReached}
use Rattle.circulant_plan.specs.Remaining.{events_left}

-- a message under way can be taken: its receiver isn't over, stands in its round, not past its need, and hasn't
-- taken it. Its round was ruled. Its sender sends it by the mode of its round; a verdict, and a tally of round 0,
-- it sends by any mode
pub record IsTakeable (ring : Ring) (blocks : Blocks) (k : Skeleton) (x : Name) : Type 0 where
  pub at : Standing
  pub stands : slice_get k.standings x.to ≡ Some at
  pub going : is_over at.spot ≡ false
  pub round : at.round ≡ x.round
  pub not_past : place_of at ≤ place_at (needing_spot ring.machines x)
  pub new : has_name x k.taken ≡ false
  pub from : x.from < ring.machines
  pub to : x.to < ring.machines
  pub other : x.to ≢ x.from
  pub needed : Contains (needs_of ring x.to (needing_spot ring.machines x)) x
  pub judged : x.round < judged_round k
  pub within : x.kind ≢ Verdict → x.round ≤ blocks.limit
  pub within_one : x.round ≤ blocks.limit + 1
  pub sent : (mode : Ruling) → mode ≢ Stop → (x.kind ≢ Verdict → 1 ≤ x.round → ruling_in k.rulings x.round ≡ mode) →
      HasSpot ring x.from mode (sending_spot mode x) × Contains (gives_of ring x.from (sending_spot mode x) mode) x
  pub ruled : x.kind ≢ Verdict → 1 ≤ x.round →
      (ruling_in k.rulings x.round ≢ Stop) × (may_rule blocks x.round (ruling_in k.rulings x.round) ≡ true)

abbrev pub EachIsTakeable : Type 0
EachIsTakeable =
    (ring : Ring) (blocks : Blocks) (k : Skeleton) (x : Name) → IsReached ring blocks k →
    has_name x k.under_way ≡ true → IsTakeable ring blocks k x

-- none of the list comes again later
abbrev pub EachOnce : {X : Type 0} → List X → Type 0
EachOnce [] = Unit {0}
EachOnce (x ∷ xs) = (Contains xs x → ⊥) × EachOnce xs

-- each name is under way once, and there are fewer than a table of messages holds
pub record AreFew (names : List Name) : Type 0 where
  pub once : EachOnce names
  pub few : length names < 2 ^ 31

abbrev pub FewAreUnderWay : Type 0
FewAreUnderWay = (ring : Ring) (blocks : Blocks) (k : Skeleton) → IsReached ring blocks k → AreFew k.under_way

-- what was taken is of a round that its receiver has reached, so nothing of a later round was taken
pub record IsTaken (ring : Ring) (k : Skeleton) (x : Name) : Type 0 where
  pub at : Standing
  pub stands : slice_get k.standings x.to ≡ Some at
  pub reached : x.round ≤ at.round
  pub from : x.from < ring.machines
  pub to : x.to < ring.machines
  pub other : x.to ≢ x.from
  pub judged : x.round < judged_round k

abbrev pub EachWasTaken : Type 0
EachWasTaken =
    (ring : Ring) (blocks : Blocks) (k : Skeleton) (x : Name) → IsReached ring blocks k →
    has_name x k.taken ≡ true → IsTaken ring k x

-- a machine has its spot by the ruling of its round, which is at most one above the limit, and is over only in
-- a round that was ruled not to be
pub record IsStandingOf (ring : Ring) (blocks : Blocks) (k : Skeleton) (m : ℕ) (s : Standing) : Type 0 where
  pub machine : m < ring.machines
  pub round : s.round ≡ round_of s.round s.spot
  pub within : s.round ≤ blocks.limit + 1
  pub has : HasSpot ring m (ruling_in k.rulings s.round) s.spot
  pub over : is_over s.spot ≡ true → ruling_in k.rulings s.round ≡ Stop

abbrev pub EachStands : Type 0
EachStands =
    (ring : Ring) (blocks : Blocks) (k : Skeleton) (m : ℕ) (s : Standing) → IsReached ring blocks k →
    slice_get k.standings m ≡ Some s → IsStandingOf ring blocks k m s

-- the rulings of the rounds up to that of machine 0 stay
abbrev pub RulingsStay : Type 0
RulingsStay =
    (ring : Ring) (blocks : Blocks) (k : Skeleton) (ruling : Ruling) (e : Event) → IsReached ring blocks k →
    is_possible ring blocks ruling e k ≡ true →
    (judged_round k ≤ judged_round (step_of ring ruling e k))
    × ((r : ℕ) → r < judged_round k → ruling_in (step_of ring ruling e k).rulings r ≡ ruling_in k.rulings r)

-- who can begin a round has a mode for it
abbrev pub BeginsHaveModes : Type 0
BeginsHaveModes =
    (ring : Ring) (blocks : Blocks) (k : Skeleton) (ruling : Ruling) (m r : ℕ) (s : Standing) →
    IsReached ring blocks k → is_possible ring blocks ruling (Go m) k ≡ true →
    slice_get k.standings m ≡ Some s → s.spot ≡ Begin r → (ruling_in k.rulings r ≢ Stop) × (r < judged_round k)

-- in an unfinished state some event is possible, whatever ruling a judge makes of those that it may make
abbrev pub SomeEventMoves : Type 0
SomeEventMoves =
    (ring : Ring) (blocks : Blocks) (k : Skeleton) → IsReached ring blocks k → is_finished k ≡ false →
    (e : Event)
    × ((ruling : Ruling) → may_rule blocks (judged_round k) ruling ≡ true → is_possible ring blocks ruling e k ≡ true)

-- a finished run has nothing under way, and no event is possible
abbrev pub FinishedIsEmpty : Type 0
FinishedIsEmpty =
    (ring : Ring) (blocks : Blocks) (k : Skeleton) → IsReached ring blocks k → is_finished k ≡ true →
    k.under_way ≡ []

abbrev pub FinishedIsStill : Type 0
FinishedIsStill =
    (ring : Ring) (blocks : Blocks) (k : Skeleton) → IsReached ring blocks k → is_finished k ≡ true →
    (ruling : Ruling) (e : Event) → is_possible ring blocks ruling e k ≡ false

-- each possible event lessens what is left
abbrev pub EventsComeNearer : Type 0
EventsComeNearer =
    (ring : Ring) (blocks : Blocks) (k : Skeleton) (ruling : Ruling) (e : Event) → IsReached ring blocks k →
    is_possible ring blocks ruling e k ≡ true →
    events_left blocks (step_of ring ruling e k) < events_left blocks k

-- a possible event leaves a reached state
abbrev pub StepsReach : Type 0
StepsReach =
    (ring : Ring) (blocks : Blocks) (k : Skeleton) (ruling : Ruling) (e : Event) → IsReached ring blocks k →
    is_possible ring blocks ruling e k ≡ true →
    IsReached ring blocks (step_of ring ruling e k)

-- from each reached state the plain events lead to the end, whatever the judges rule of what they may rule
abbrev pub PlainEventsEnd : Type 0
PlainEventsEnd =
    (ring : Ring) (blocks : Blocks) (ruling : ℕ → Ruling) (bound : ℕ) (k : Skeleton) → IsReached ring blocks k →
    ((r : ℕ) → may_rule blocks r (ruling r) ≡ true) → events_left blocks k ≤ bound →
    (are_possible ring blocks ruling (plain_events ring blocks ruling bound k) k ≡ true)
    × (is_finished (after ring ruling (plain_events ring blocks ruling bound k) k) ≡ true)

-- possible events from a reached state are at most as many as are left
abbrev pub RunsAreBounded : Type 0
RunsAreBounded =
    (ring : Ring) (blocks : Blocks) (k : Skeleton) (es : List (Event × Ruling)) → IsReached ring blocks k →
    all_possible ring blocks es k ≡ true → length es ≤ events_left blocks k

-- and from the usual first state, and from the begin of round q, at most these
abbrev pub FirstRunsAreBounded : Type 0
FirstRunsAreBounded =
    (ring : Ring) (blocks : Blocks) (es : List (Event × Ruling)) → 1 ≤ ring.machines → ring.machines ≤ 64 →
    all_possible ring blocks es (first_skeleton ring.machines) ≡ true →
    length es ≤ 66 * (ring.machines * (256 * blocks.limit + 3))

abbrev pub ResumedRunsAreBounded : Type 0
ResumedRunsAreBounded =
    (ring : Ring) (blocks : Blocks) (q : ℕ) (ruling : Ruling) (es : List (Event × Ruling)) →
    1 ≤ ring.machines → ring.machines ≤ 64 → 1 ≤ q → may_rule blocks q ruling ≡ true → ruling ≢ Stop →
    all_possible ring blocks es (resumed_skeleton ring.machines q ruling) ≡ true →
    length es ≤ 66 * (ring.machines * (256 * (blocks.limit + 1 - q) + 1))

-- something is missing exactly where the run isn't finished
abbrev pub MissingIsUnfinished : Type 0
MissingIsUnfinished =
    (ring : Ring) (blocks : Blocks) (k : Skeleton) → IsReached ring blocks k →
    (is_finished k ≡ true → missing_of ring k ≡ None) × (is_finished k ≡ false → missing_of ring k ≢ None)

-- each name of the list is before all later ones
abbrev pub NamesRise : List Name → Type 0
NamesRise [] = Unit {0}
NamesRise (x ∷ xs) = ((y : Name) → Contains xs y → is_before x y ≡ true) × NamesRise xs

-- a take that is missing is the least message under way; a go that is missing is of the least machine that is
-- ready, and nothing is under way
pub record IsLeast (ring : Ring) (k : Skeleton) : Type 0 where
  pub take_flies : (x : Name) → missing_of ring k ≡ Some (Take x) → has_name x k.under_way ≡ true
  pub take_least : (x y : Name) → missing_of ring k ≡ Some (Take x) → has_name y k.under_way ≡ true →
      is_before y x ≡ false
  pub go_alone : (m : ℕ) → missing_of ring k ≡ Some (Go m) → k.under_way ≡ []
  pub go_ready : (m : ℕ) → missing_of ring k ≡ Some (Go m) → could_act ring m (slice_get k.standings m) k.taken ≡ true
  pub go_least : (m j : ℕ) → missing_of ring k ≡ Some (Go m) → j < m →
      could_act ring j (slice_get k.standings j) k.taken ≡ false

abbrev pub MissingIsLeast : Type 0
MissingIsLeast = (ring : Ring) (k : Skeleton) → IsLeast ring k

-- two rising lists with the same names are one list
abbrev pub RisingNamesAreOne : Type 0
RisingNamesAreOne =
    (xs ys : List Name) → NamesRise xs → NamesRise ys → ((x : Name) → has_name x xs ≡ has_name x ys) → xs ≡ ys

-- there is a plain event exactly where the run isn't finished, by each ruling that a judge may make, and it is possible
pub record IsPlain (ring : Ring) (blocks : Blocks) (ruling : Ruling) (k : Skeleton) : Type 0 where
  pub none : is_finished k ≡ true → plain_of ring blocks ruling k ≡ None
  pub some : is_finished k ≡ false → may_rule blocks (judged_round k) ruling ≡ true →
      plain_of ring blocks ruling k ≢ None
  pub possible : (e : Event) → plain_of ring blocks ruling k ≡ Some e → is_possible ring blocks ruling e k ≡ true

abbrev pub PlainIsUnfinished : Type 0
PlainIsUnfinished =
    (ring : Ring) (blocks : Blocks) (k : Skeleton) (ruling : Ruling) → IsReached ring blocks k →
    IsPlain ring blocks ruling k

-- the choices are exactly the possible events, each once, and the takes among them rise by name
pub record AreChoices (ring : Ring) (blocks : Blocks) (ruling : Ruling) (k : Skeleton) : Type 0 where
  pub possible : (e : Event) → Contains (choices_of ring blocks ruling k) e → is_possible ring blocks ruling e k ≡ true
  pub listed : (e : Event) → is_possible ring blocks ruling e k ≡ true → Contains (choices_of ring blocks ruling k) e
  pub once : EachOnce (choices_of ring blocks ruling k)
  pub rise : NamesRise (names_in_order k.under_way)

abbrev pub ChoicesArePossible : Type 0
ChoicesArePossible = (ring : Ring) (blocks : Blocks) (ruling : Ruling) (k : Skeleton) → AreChoices ring blocks ruling k

-- a run under a function of rulings is a run whose events carry their rulings
abbrev pub RunsCarryRulings : Type 0
RunsCarryRulings =
    (ring : Ring) (blocks : Blocks) (ruling : ℕ → Ruling) (es : List Event) (k : Skeleton) →
    (are_possible ring blocks ruling es k ≡ all_possible ring blocks (with_rulings ring ruling es k) k)
    × (after ring ruling es k ≡ skeleton_after ring (with_rulings ring ruling es k) k)
