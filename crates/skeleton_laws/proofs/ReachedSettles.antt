-- Every state that possible events leave is settled.
use Rattle.std.proofs.Common.{◌≡◌, ℕ, ◌<◌, ◌≤◌, true, false, ◌&&◌, not, List, [], ◌∷◌, length, Option, Some, ap, sym, ◌∙◌, subst, arith, ⊎_elim, slice_get}
use Rattle.std.proofs.lemmas.Bool.{cases_lt, false≢true, and_parts}
use Rattle.std.proofs.lemmas.Option.{slice_get_past}
use Rattle.vert_base.specs.declared.message.Name.{Name}
use Rattle.vert_base.specs.declared.message.Event.{Event}
use Rattle.vert_base.specs.declared.message.Event.TheVariants.{Go, Take}
use Rattle.vert_base.specs.declared.value.Ruling.{Ruling}
use Rattle.circulant_plan.specs.Skeleton.{has_name, Skeleton, Blocks, is_over, is_ready, rules_rightly, can_go, is_possible, go_at, step_of, skeleton_after, all_possible}
use Rattle.circulant_plan.specs.declared.spot.Ring.{Ring}
use Rattle.circulant_plan.specs.Standing.{Standing, standing_at}
use Rattle.circulant_plan.specs.Runs.{IsFirst, IsReached}
use Rattle.circulant_plan.specs.Runs.IsFirst.{anew, again}
use Rattle.skeleton_laws.proofs.Settled.{SettledState, Settled, is_standing_at, not_true}
use Rattle.skeleton_laws.proofs.TakeSettles.{Taking, take_settles}
use Rattle.skeleton_laws.proofs.GoSettles.{Turn, gone, go_settles}
use Rattle.skeleton_laws.proofs.Standings.{standing_of, got}
use Rattle.skeleton_laws.proofs.FirstSettles.{first_settles, resumed_settles}

-- what a possible go says
pub record Acting (ring : Ring) (blocks : Blocks) (ruling : Ruling) (k : Skeleton) (m : ℕ) : Type 0 where
  pub within : m < ring.machines
  pub stands : slice_get k.standings m ≡ Some (standing_of k.standings m)
  pub at : standing_of k.standings m ≡ standing_at 0 (standing_of k.standings m).spot
  pub going : is_over (standing_of k.standings m).spot ≡ false
  pub ready : is_ready ring m (standing_at 0 (standing_of k.standings m).spot) k.taken ≡ true
  pub rightly : rules_rightly blocks ruling (standing_of k.standings m).spot ≡ true

-- a go that is possible, as a turn of its machine
abbrev pub turn_by : (state : SettledState) (ruling : Ruling) (m : ℕ) →
    Acting state.ring state.blocks ruling state.k m → Turn
turn_by state ruling m a = record {
  state = state;
  m = m;
  within = a.within;
  ruling = ruling;
  spot = (standing_of state.k.standings m).spot;
  at = a.at;
  going = a.going;
  ready = a.ready;
  rightly = a.rightly;
}

abbrev pub taking_by : (state : SettledState) (x : Name) → has_name x state.k.under_way ≡ true → Taking
taking_by state x flew = record { state = state; x = x; flew = flew }

module _ (state : SettledState) where
  open state use {ring, few, some, blocks, k, settled}

  pub acting_of : (ruling : Ruling) (m : ℕ) → is_possible ring blocks ruling (Go m) k ≡ true →
      Acting ring blocks ruling k m
  acting_of ruling m can =
      let all = settled.rules.all_there in
      ⊎_elim
      (λ (lt : m < length k.standings).
      let g = got k.standings m lt in
      let s = standing_of k.standings m in
      let c : can_go ring blocks ruling m (Some s) k.taken ≡ true =
      subst (λ o. can_go ring blocks ruling m o k.taken ≡ true) g can in
      let parts =
      and_parts (not (is_over s.spot))
      (is_ready ring m s k.taken && rules_rightly blocks ruling s.spot) c in
      let more = and_parts (is_ready ring m s k.taken) (rules_rightly blocks ruling s.spot) parts.1 in
      let going = not_true (is_over s.spot) parts.0 in
      let within : m < ring.machines = omega arith in
      record {
        within = within;
        stands = g;
        at = is_standing_at s (settled.rules.rounds m within) going;
        going = going;
        ready = more.0;
        rightly = more.1;
      })
      (λ (past : length k.standings ≤ m).
      absurd
      (false≢true
      (subst (λ o. can_go ring blocks ruling m o k.taken ≡ true)
      (slice_get_past k.standings m past) can)))
      (cases_lt m (length k.standings))

  pub go_is : (ruling : Ruling) (m : ℕ) (a : Acting ring blocks ruling k m) →
      step_of ring ruling (Go m) k ≡ gone (turn_by state ruling m a)
  go_is ruling m a =
      ap (λ (o : Option Standing). go_at ring ruling m o k) (a.stands ∙ ap (λ (s : Standing). Some s) a.at)

  pub step_settles : (ruling : Ruling) (e : Event) → is_possible ring blocks ruling e k ≡ true →
      Settled ring few blocks (step_of ring ruling e k)
  step_settles ruling (Go m) can =
      let a = acting_of ruling m can in
      subst (λ q. Settled ring few blocks q) (sym (go_is ruling m a)) (go_settles (turn_by state ruling m a))
  step_settles ruling (Take x) can = take_settles (taking_by state x can) ruling

  -- the state that a possible event leaves
  abbrev pub state_after : (ruling : Ruling) (e : Event) → is_possible ring blocks ruling e k ≡ true → SettledState
  state_after ruling e can =
      record {
        ring = ring;
        few = few;
        some = some;
        blocks = blocks;
        k = step_of ring ruling e k;
        settled = step_settles ruling e can;
      }

pub events_settle : (es : List (Event × Ruling)) (state : SettledState) →
    all_possible state.ring state.blocks es state.k ≡ true →
    Settled state.ring state.few state.blocks (skeleton_after state.ring es state.k)
events_settle [] state can = state.settled
events_settle (e ∷ es) state can =
    let parts =
    and_parts (is_possible state.ring state.blocks e.1 e.0 state.k)
    (all_possible state.ring state.blocks es (step_of state.ring e.1 e.0 state.k)) can in
    events_settle es (state_after state e.1 e.0 parts.0) parts.1

pub firsts_settle : (ring : Ring) (few : ring.machines ≤ 64) (some : 1 ≤ ring.machines)
    (blocks : Blocks) (k : Skeleton) →
    IsFirst ring blocks k → Settled ring few blocks k
firsts_settle ring few some blocks k (anew e) =
    subst (λ q. Settled ring few blocks q) (sym e) (first_settles ring few some blocks)
firsts_settle ring few some blocks k (again q ruling later may going e) =
    subst (λ s. Settled ring few blocks s) (sym e)
    (resumed_settles ring few some blocks q ruling later may going)

-- the first state of a reached one
abbrev pub first_of_reached : (ring : Ring) (blocks : Blocks) (k : Skeleton) → IsReached ring blocks k → SettledState
first_of_reached ring blocks k r =
    record {
      ring = ring;
      few = r.few;
      some = r.some;
      blocks = blocks;
      k = r.first;
      settled = firsts_settle ring r.few r.some blocks r.first r.is_first;
    }

pub reached_settles : (ring : Ring) (blocks : Blocks) (k : Skeleton) (r : IsReached ring blocks k) →
    Settled ring r.few blocks k
reached_settles ring blocks k r =
    subst (λ q. Settled ring r.few blocks q) (sym r.here)
    (events_settle r.events (first_of_reached ring blocks k r) r.were_possible)

abbrev pub reached : (ring : Ring) (blocks : Blocks) (k : Skeleton) → IsReached ring blocks k → SettledState
reached ring blocks k r =
    record {
      ring = ring;
      few = r.few;
      some = r.some;
      blocks = blocks;
      k = k;
      settled = reached_settles ring blocks k r;
    }
