-- Where one machine gets by acting on and on, by the rulings of a run.
use Rattle.std.proofs.Common.{◌≡◌, ◌≢◌, ℕ, zero, suc, ◌+◌, ◌*◌, ◌<◌, ◌≤◌, true, false, List, [], ◌∷◌, ◌++◌, append_assoc, append-nil, refl, ap, sym, ◌∙◌, subst, arith, ⊎_elim}
use Rattle.std.specs.List.{list_all}
use Rattle.std.proofs.lemmas.Bool.{and_from, and_parts, cases_Bool, cases_lt, false≢true}
use Rattle.vert_base.specs.declared.message.Name.{Name}
use Rattle.vert_base.specs.declared.value.Ruling.{Ruling}
use Rattle.vert_base.specs.declared.value.Ruling.TheVariants.{Stop, Dense, Sparse}
use Rattle.circulant_plan.specs.declared.spot.Ring.{Ring}
use Rattle.circulant_plan.specs.declared.spot.Spot.{Spot}
use Rattle.circulant_plan.specs.declared.spot.Spot.TheVariants.{Tell, Judge, Begin, Scan, Close, Over}
use Rattle.circulant_plan.specs.Deliveries.{HasSpot, place_at}
use Rattle.circulant_plan.specs.Skeleton.{acting_ruling, has_name, is_over, is_ready}
use Rattle.circulant_plan.specs.Standing.{Standing, next_standing, offset_of, place_of, round_of, standing_at}
use Rattle.circulant_plan.specs.Table.{gives_of, needs_of}
use Rattle.circulant_plan.proofs.ActionLaws.{Acts, Course, acts, course_by, next_of}
use Rattle.circulant_plan.proofs.Members.{Has}
use Rattle.circulant_plan.proofs.NameLaws.{offset_small}
use Rattle.skeleton_laws.proofs.Settled.{all_at, dense_goes, going_mode, is_standing_at, over_place, sparse_goes}

-- the ruling by which an action is done
abbrev pub acts_by : (ℕ → Ruling) → Standing → Ruling
acts_by rule at = acting_ruling (rule (at.round + 1)) (rule at.round) at.spot

-- where an action leads, and what is sent in it
abbrev pub led : Ring → (ℕ → Ruling) → ℕ → Standing → Standing
led ring rule m at = next_standing ring m (acts_by rule at) at

abbrev pub given : Ring → (ℕ → Ruling) → ℕ → Standing → List Name
given ring rule m at = gives_of ring m at.spot (acts_by rule at)

-- the same of so many actions
abbrev pub led_on : Ring → (ℕ → Ruling) → ℕ → ℕ → Standing → Standing
led_on ring rule m zero at = at
led_on ring rule m (suc n) at = led_on ring rule m n (led ring rule m at)

abbrev pub given_on : Ring → (ℕ → Ruling) → ℕ → ℕ → Standing → List Name
given_on ring rule m zero at = []
given_on ring rule m (suc n) at = given ring rule m at ++ given_on ring rule m n (led ring rule m at)

-- the action is possible, where these names were taken
pub record CanLead (ring : Ring) (rule : ℕ → Ruling) (m : ℕ) (taken : List Name) (at : Standing) : Type 0 where
  pub going : is_over at.spot ≡ false
  pub ready : is_ready ring m at taken ≡ true
  pub begins : (r : ℕ) → at.spot ≡ Begin r → rule at.round ≢ Stop

abbrev pub AreLed : Ring → (ℕ → Ruling) → ℕ → List Name → ℕ → Standing → Type 0
AreLed ring rule m taken zero at = Unit {0}
AreLed ring rule m taken (suc n) at =
    CanLead ring rule m taken at × AreLed ring rule m taken n (led ring rule m at)

-- ---- one more action
module _ (ring : Ring) (rule : ℕ → Ruling) (m : ℕ) where
  pub led_more : (n : ℕ) (at : Standing) →
      led_on ring rule m (suc n) at ≡ led ring rule m (led_on ring rule m n at)
  led_more zero at = refl
  led_more (suc n) at = led_more n (led ring rule m at)

  pub given_more : (n : ℕ) (at : Standing) →
      given_on ring rule m (suc n) at ≡ given_on ring rule m n at ++ given ring rule m (led_on ring rule m n at)
  given_more zero at = append-nil (given ring rule m at)
  given_more (suc n) at =
      ap (λ xs. given ring rule m at ++ xs) (given_more n (led ring rule m at))
      ∙ sym (append_assoc (given ring rule m at) (given_on ring rule m n (led ring rule m at))
      (given ring rule m (led_on ring rule m (suc n) at)))

  pub are_led_more : (taken : List Name) (n : ℕ) (at : Standing) → AreLed ring rule m taken n at →
      CanLead ring rule m taken (led_on ring rule m n at) → AreLed ring rule m taken (suc n) at
  are_led_more taken zero at all can = (can, tt)
  are_led_more taken (suc n) at all can = (all.0, are_led_more taken n (led ring rule m at) all.1 can)

  -- ---- more names taken
  module _ (taken more : List Name) (grows : (x : Name) → has_name x taken ≡ true → has_name x more ≡ true) where
    all_still : (xs : List Name) → list_all (λ x. has_name x taken) xs ≡ true →
        list_all (λ x. has_name x more) xs ≡ true
    all_still [] all = refl
    all_still (x ∷ xs) all =
        let c = and_parts (has_name x taken) (list_all (λ y. has_name y taken) xs) all in
        and_from (has_name x more) (list_all (λ y. has_name y more) xs) (grows x c.0) (all_still xs c.1)

    pub still_led : (n : ℕ) (at : Standing) → AreLed ring rule m taken n at → AreLed ring rule m more n at
    still_led zero at all = tt
    still_led (suc n) at all = (
      record {
        going = all.0.going;
        ready = all_still (needs_of ring m at.spot) all.0.ready;
        begins = all.0.begins;
      },
      still_led n (led ring rule m at) all.1,
    )

-- ---- modes
pub going_goes : (a : Ruling) → going_mode a ≢ Stop
going_goes Stop e = dense_goes e
going_goes Dense e = dense_goes e
going_goes Sparse e = sparse_goes e

pub same_mode : (a : Ruling) → a ≢ Stop → a ≡ going_mode a
same_mode Stop on = absurd (on refl)
same_mode Dense on = refl
same_mode Sparse on = refl

stop_not_dense : Stop ≡ Dense → ⊥
stop_not_dense e = dense_goes (sym e)

stop_not_sparse : Stop ≡ Sparse → ⊥
stop_not_sparse e = sparse_goes (sym e)

has_going : (ring : Ring) (m : ℕ) (a : Ruling) (spot : Spot) → HasSpot ring m a spot →
    HasSpot ring m (going_mode a) spot
has_going ring m Dense spot has = has
has_going ring m Sparse spot has = has
has_going ring m Stop Tell has = has
has_going ring m Stop (Judge r) has = has
has_going ring m Stop (Begin r) has = has
has_going ring m Stop (Scan r s h) has = absurd (stop_not_dense has.3)
has_going ring m Stop (Close r true) has = absurd (stop_not_dense has.1)
has_going ring m Stop (Close r false) has = absurd (stop_not_sparse has.1)
has_going ring m Stop Over has = has

-- machine m stands at one of its spots
pub record IsAt (ring : Ring) (rule : ℕ → Ruling) (m : ℕ) (at : Standing) : Type 0 where
  pub has : HasSpot ring m (going_mode (rule at.round)) at.spot
  pub round : at.round ≡ round_of at.round at.spot

pub is_at : (ring : Ring) (rule : ℕ → Ruling) (m : ℕ) (at : Standing) → HasSpot ring m (rule at.round) at.spot →
    at.round ≡ round_of at.round at.spot → IsAt ring rule m at
is_at ring rule m at has round = record { has = has_going ring m (rule at.round) at.spot has; round = round }

module _ (ring : Ring) (few : ring.machines ≤ 64) (rule : ℕ → Ruling) (m : ℕ) (within : m < ring.machines) where
  abbrev pub course : Course
  course = course_by ring few (λ r. going_mode (rule r)) (λ r. going_goes (rule r))

  pub low_offset : (at : Standing) → IsAt ring rule m at → offset_of at.spot < 256
  low_offset at is = offset_small course m (going_mode (rule at.round)) at.spot is.has

  module _ (taken : List Name) (at : Standing) (is : IsAt ring rule m at) (can : CanLead ring rule m taken at) where
    place : at ≡ standing_at 0 at.spot
    place = is_standing_at at is.round can.going

    own : HasSpot ring m (going_mode (rule (round_of 0 at.spot))) at.spot
    own = subst (λ r. HasSpot ring m (going_mode (rule r)) at.spot) (ap (λ (s : Standing). s.round) place) is.has

    mine : (r : ℕ) → at.spot ≡ Begin r → acts_by rule at ≡ going_mode (rule r)
    mine r begins =
        let round : at.round ≡ r = is.round ∙ ap (round_of at.round) begins in
        ap (acting_ruling (rule (at.round + 1)) (rule at.round)) begins
        ∙ same_mode (rule at.round) (can.begins r begins)
        ∙ ap (λ q. going_mode (rule q)) round

    does : Acts course m within (acts_by rule at) at.spot
    does = acts course m within (acts_by rule at) at.spot own can.going mine

    next_is : led ring rule m at ≡ next_of ring m (acts_by rule at) at.spot
    next_is = ap (next_standing ring m (acts_by rule at)) place

    here : place_of at ≡ place_at at.spot
    here = ap place_of place

    pub led_is_at : IsAt ring rule m (led ring rule m at)
    led_is_at = record {
      has = subst (λ (s : Standing). HasSpot ring m (going_mode (rule s.round)) s.spot) (sym next_is) does.has;
      round = subst (λ (s : Standing). s.round ≡ round_of s.round s.spot) (sym next_is) does.round;
    }

    pub led_later : place_of at < place_of (led ring rule m at)
    led_later =
        let later = does.later in
        let same = here in
        let next = ap place_of next_is in
        omega arith

    -- a spot whose need wasn't taken isn't passed
    pub led_stays : (spot : Spot) (x : Name) → HasSpot ring m (going_mode (rule (round_of 0 spot))) spot →
        is_over spot ≡ false → Has (needs_of ring m spot) x → has_name x taken ≡ false →
        place_of at ≤ place_at spot → place_of (led ring rule m at) ≤ place_at spot
    led_stays spot x has going needed none low =
        ⊎_elim
        (λ (past : place_at spot < place_of (led ring rule m at)).
        let same = here in
        let next = ap place_of next_is in
        let one : spot ≡ at.spot = does.between spot (record {
          has = has;
          going = going;
          low = omega arith;
          high = omega arith;
        }) in
        absurd (false≢true (sym none ∙ all_at (λ y. has_name y taken) (needs_of ring m at.spot) x can.ready
        (subst (λ s. Has (needs_of ring m s) x) one needed))))
        (λ (le : place_of (led ring rule m at) ≤ place_at spot). le)
        (cases_lt (place_at spot) (place_of (led ring rule m at)))

  -- ---- a message that wasn't taken
  -- where machine m is before the spot that needs it, and in its round
  pub record IsBefore (spot : Spot) (round : ℕ) (at : Standing) : Type 0 where
    pub is : IsAt ring rule m at
    pub going : is_over at.spot ≡ false
    pub low : 256 * round ≤ place_of at
    pub high : place_of at ≤ place_at spot

  module _ (taken : List Name) (spot : Spot) (x : Name) (round : ℕ)
      (has : HasSpot ring m (going_mode (rule (round_of 0 spot))) spot) (on : is_over spot ≡ false)
      (needed : Has (needs_of ring m spot) x) (none : has_name x taken ≡ false)
      (of_round : place_at spot < 256 * (round + 1)) where
    led_before : (at : Standing) → IsBefore spot round at → CanLead ring rule m taken at →
        IsBefore spot round (led ring rule m at)
    led_before at before can =
        let next : Standing = led ring rule m at in
        let later = led_later taken at before.is can in
        let low = before.low in
        let stays = led_stays taken at before.is can spot x has on needed none before.high in
        let high = of_round in
        record {
          is = led_is_at taken at before.is can;
          going = ⊎_elim
              (λ (over : is_over (led ring rule m at).spot ≡ true).
              let last = over_place (led ring rule m at) over in
              absurd (omega arith))
              (λ (going : is_over (led ring rule m at).spot ≡ false). going)
              (cases_Bool (is_over (led ring rule m at).spot));
          low = omega arith;
          high = stays;
        }

    pub all_before : (n : ℕ) (at : Standing) → IsBefore spot round at → AreLed ring rule m taken n at →
        IsBefore spot round (led_on ring rule m n at)
    all_before zero at before all = before
    all_before (suc n) at before all =
        all_before n (led ring rule m at) (led_before at before all.0) all.1

  pub round_before : (spot : Spot) (round : ℕ) (at : Standing) → IsBefore spot round at →
      place_at spot < 256 * (round + 1) → at.round ≡ round
  round_before spot round at before high =
      let low = before.low in
      let stays = before.high in
      let off = low_offset at before.is in
      omega arith

  -- ---- how far
  pub led_far : (taken : List Name) (n : ℕ) (at : Standing) → IsAt ring rule m at → AreLed ring rule m taken n at →
      n + place_of at ≤ place_of (led_on ring rule m n at)
  led_far taken zero at is all = omega arith
  led_far taken (suc n) at is all =
      let later = led_later taken at is all.0 in
      let more = led_far taken n (led ring rule m at) (led_is_at taken at is all.0) all.1 in
      omega arith

  pub led_on_at : (taken : List Name) (n : ℕ) (at : Standing) → IsAt ring rule m at →
      AreLed ring rule m taken n at → IsAt ring rule m (led_on ring rule m n at)
  led_on_at taken zero at is all = is
  led_on_at taken (suc n) at is all = led_on_at taken n (led ring rule m at) (led_is_at taken at is all.0) all.1
