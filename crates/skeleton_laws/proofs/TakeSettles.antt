-- A message taken leaves a state that is settled again.
use Rattle.std.proofs.Common.{◌≡◌, ◌≢◌, ◌⊎◌, ℕ, ◌+◌, ◌*◌, ◌<◌, ◌≤◌, true, false, ◌∷◌, length, Option, refl, ap, sym, ◌∙◌, subst, inl, inr, arith, ⊎_elim}
use Rattle.std.specs.Prelude.{slice_set}
use Rattle.std.proofs.lemmas.Bool.{cases_eq, false≢true}
use Rattle.vert_base.specs.declared.message.Name.{Name}
use Rattle.vert_base.specs.declared.message.NameKind.{NameKind}
use Rattle.vert_base.specs.declared.message.NameKind.TheVariants.{Refresh, Dep, Update, Push, Tally, Verdict}
use Rattle.vert_base.specs.declared.message.Event.TheVariants.{Take}
use Rattle.vert_base.specs.declared.value.Ruling.{Ruling}
use Rattle.vert_base.specs.declared.value.Ruling.TheVariants.{Stop, Dense, Sparse}
use Rattle.circulant_plan.specs.declared.spot.Spot.TheVariants.{Over}
use Rattle.circulant_plan.specs.Names.{verdict_name}
use Rattle.circulant_plan.specs.Standing.{Standing, round_of, place_of}
use Rattle.circulant_plan.specs.Deliveries.{HasSpot}
use Rattle.circulant_plan.specs.Skeleton.{Skeleton, has_name, ruling_in, is_over, standing_taken, standings_taken, step_of}
use Rattle.circulant_plan.proofs.NameLists.{once_but, but_for, has_from_name, name_from_has, has_but_cases, has_but}
use Rattle.circulant_plan.proofs.ActionLaws.{Course, course_by}
use Rattle.circulant_plan.proofs.Members.{Has}
use Rattle.circulant_plan.proofs.SendingLaws.{sent_at, needed_at, sent_round}
use Rattle.circulant_plan.proofs.NameLaws.{IsName, offset_small, needed_later, verdict_is}
use Rattle.skeleton_laws.proofs.Kept.{View, Flies, Takes, takes_keeps}
use Rattle.skeleton_laws.proofs.Standings.{standing_of, got, set_length, set_here, set_other}
use Rattle.skeleton_laws.proofs.Settled.{names_are_planned, view_of, zero_round, Agrees, Rules, FitsBy, SettledState, course_in, Settled, mode_in, modes_in, agrees_in}

-- the receiver stands where it stood, or a verdict of a stop ends its list
taken_cases : (kind : NameKind) (ruling : Ruling) (s : Standing) →
    (standing_taken kind ruling s ≡ s) ⊎
    ((kind ≡ Verdict) × (ruling ≡ Stop) ×
    (standing_taken kind ruling s ≡ record { spot = Over; round = s.round }))
taken_cases Refresh ruling s = inl refl
taken_cases Dep ruling s = inl refl
taken_cases Update ruling s = inl refl
taken_cases Push ruling s = inl refl
taken_cases Tally ruling s = inl refl
taken_cases Verdict Stop s = inr (refl, refl, refl)
taken_cases Verdict Dense s = inl refl
taken_cases Verdict Sparse s = inl refl

over_when : (kind : NameKind) (ruling : Ruling) (s : Standing) → kind ≡ Verdict → ruling ≡ Stop →
    is_over (standing_taken kind ruling s).spot ≡ true
over_when kind ruling s e f =
    subst (λ q. is_over (standing_taken q ruling s).spot ≡ true) (sym e)
    (subst (λ a. is_over (standing_taken Verdict a s).spot ≡ true) (sym f) refl)

-- a settled state, and a message under way there
pub record Taking : Type 0 where
  pub state : SettledState
  pub x : Name
  pub flew : has_name x state.k.under_way ≡ true

module _ (taking : Taking) where
  open taking use {state, x, flew}
  open state use {ring, few, some, blocks, k, settled}

  abbrev pub known : Ruling
  known = ruling_in k.rulings x.round

  abbrev pub s : Standing
  s = standing_of k.standings x.to

  abbrev pub new : Standing
  new = standing_taken x.kind known s

  abbrev pub took : Skeleton
  took =
      record {
        standings = slice_set k.standings x.to new;
        rulings = k.rulings;
        under_way = but_for x k.under_way;
        taken = x ∷ k.taken;
      }

  abbrev v : View
  v = view_of k

  fitted : FitsBy (course_in state) k
  fitted = settled.by (mode_in k) (modes_in k) (agrees_in k)

  pub flying : Flies ring.machines (IsName (course_in state)) v x
  flying = fitted.fits.flies x flew

  pub to_within : x.to < ring.machines
  to_within = (names_are_planned (course_in state)).to_within x flying.named

  pub to_here : x.to < length k.standings
  to_here = let e = settled.rules.all_there in let w = to_within in omega arith

  pub step_is : (ruling : Ruling) → step_of ring ruling (Take x) k ≡ took
  step_is ruling =
      ap
      (λ (o : Option Standing).
      record {
        standings = standings_taken x known o k.standings;
        rulings = k.rulings;
        under_way = but_for x k.under_way;
        taken = x ∷ k.taken;
      })
      (got k.standings x.to to_here)

  abbrev pub Cases : Type 0
  Cases = (new ≡ s) ⊎ ((x.kind ≡ Verdict) × (known ≡ Stop) × (new ≡ record { spot = Over; round = s.round }))

  pub cases : Cases
  cases = taken_cases x.kind known s

  pub here' : standing_of took.standings x.to ≡ new
  here' = set_here k.standings x.to new to_here

  pub other' : (j : ℕ) → j ≢ x.to → standing_of took.standings j ≡ standing_of k.standings j
  other' j ne = set_other k.standings x.to j new ne

  -- the receiver of a verdict stands at the begin of its round
  pub at_verdict : x.kind ≡ Verdict → v.place x.to ≡ 256 * x.round
  at_verdict verdict =
      let n = (verdict_is (course_in state) x flying.named verdict).needed in
      let e = flying.entered in
      let p = flying.not_past in
      omega arith

  place_new_of : Cases → place_of new ≡ place_of s
  place_new_of (inl e) = ap place_of e
  place_new_of (inr e) =
      let at = at_verdict e.0 in
      let off = offset_small (course_in state) x.to (mode_in k s.round) s.spot (fitted.has x.to to_within) in
      let ends : place_of new ≡ 256 * s.round + 0 = ap place_of e.2 in
      omega arith

  pub place_new : place_of new ≡ place_of s
  place_new = place_new_of cases

  place' : (j : ℕ) → place_of (standing_of took.standings j) ≡ v.place j
  place' j =
      ⊎_elim
      (λ (e : j ≡ x.to).
      subst (λ i. place_of (standing_of took.standings i) ≡ v.place i) (sym e) (ap place_of here' ∙ place_new))
      (λ (ne : j ≢ x.to). ap place_of (other' j ne))
      (cases_eq j x.to)

  pub not_over_s : is_over s.spot ≡ false
  not_over_s = flying.not_over

  zero_standing_at : x.to ≡ 0 → Cases → standing_of took.standings 0 ≡ standing_of k.standings 0
  zero_standing_at to (inl e) = subst (λ j. standing_of took.standings j ≡ standing_of k.standings j) to (here' ∙ e)
  zero_standing_at to (inr e) =
      let n = needed_later (course_in state) x flying.named in
      absurd (n.other (to ∙ sym (verdict_is (course_in state) x flying.named e.0).from))

  pub zero_standing : standing_of took.standings 0 ≡ standing_of k.standings 0
  zero_standing =
      ⊎_elim (λ (e : x.to ≡ 0). zero_standing_at e cases) (λ (ne : x.to ≢ 0). other' 0 (λ e. ne (sym e)))
      (cases_eq x.to 0)

  over_0 : is_over (standing_of took.standings 0).spot ≡ v.over 0
  over_0 = ap (λ q. is_over q.spot) zero_standing

  -- where the receiver ends, machine 0 is over at the same place
  ended : is_over new.spot ≡ true → Cases → (x.kind ≡ Verdict) × (v.over 0 ≡ true) × (v.place 0 ≡ 256 * x.round)
  ended over (inl e) = absurd (false≢true (sym not_over_s ∙ sym (ap (λ q. is_over q.spot) e) ∙ over))
  ended over (inr e) = let z = settled.rules.stop_flies x flew e.0 e.1 in (e.0, z.0, z.1)

  module _ (mode : ℕ → Ruling) (not_stop : (r : ℕ) → mode r ≢ Stop) (agrees : Agrees mode k) where
    abbrev course : Course
    course = course_by ring few mode not_stop

    abbrev Named : Name → Type 0
    Named = IsName course

    f : FitsBy course k
    f = settled.by mode not_stop agrees

    ends_alone : is_over (standing_of took.standings x.to).spot ≡ true → (y : Name) → v.flies y ≡ true →
        y.to ≡ x.to → y ≡ x
    ends_alone over y flew_y to =
        let e = ended (sym (ap (λ q. is_over q.spot) here') ∙ over) cases in
        let at = at_verdict e.0 in
        let at_0 = e.2 in
        let flight = f.fits.flies y flew_y in
        let plan = names_are_planned course in
        let zero_lt : 0 < ring.machines = omega arith in
        let low : 256 * y.round ≤ v.place x.to = subst (λ j. 256 * y.round ≤ v.place j) to flight.entered in
        let not_past : v.place x.to ≤ needed_at ring.machines y =
        subst (λ j. v.place j ≤ needed_at ring.machines y) to flight.not_past in
        let high = plan.needed_to y flight.named in
        let was = flight.was_sent in
        let behind = f.fits.over_last 0 y.from zero_lt (plan.from_within y flight.named) e.1 in
        let same : y.round ≡ x.round = omega arith in
        ⊎_elim
        (λ (verdict : y.kind ≡ Verdict).
        (verdict_is course y flight.named verdict).same
        ∙ ap (λ r. verdict_name r y.to) same
        ∙ ap (λ j. verdict_name x.round j) to
        ∙ sym (verdict_is (course_in state) x flying.named e.0).same)
        (λ (le : 256 * y.round ≤ sent_at y). absurd (omega arith))
        (sent_round y)

    last : (i j : ℕ) → i < ring.machines → j < ring.machines →
        is_over (standing_of took.standings i).spot ≡ true →
        place_of (standing_of took.standings j) ≤ place_of (standing_of took.standings i)
    last i j lt_i lt_j over =
        let pi = place' i in
        let pj = place' j in
        let zero_lt : 0 < ring.machines = omega arith in
        ⊎_elim
        (λ (i_is : i ≡ x.to).
        let over_x : is_over (standing_of took.standings x.to).spot ≡ true =
        subst (λ q. is_over (standing_of took.standings q).spot ≡ true) i_is over in
        let e = ended (sym (ap (λ q. is_over q.spot) here') ∙ over_x) cases in
        let at = at_verdict e.0 in
        let at_0 = e.2 in
        let same : v.place i ≡ v.place x.to = ap v.place i_is in
        let behind = f.fits.over_last 0 j zero_lt lt_j e.1 in
        omega arith)
        (λ (i_ne : i ≢ x.to).
        let behind = f.fits.over_last i j lt_i lt_j (sym (ap (λ q. is_over q.spot) (other' i i_ne)) ∙ over) in
        omega arith)
        (cases_eq i x.to)

    takes : Takes ring.machines Named v (view_of took) x
    takes = record {
      flew = flew;
      place = place';
      over_other = λ j ne. ap (λ q. is_over q.spot) (other' j ne);
      flies_old =
          λ y now.
          let c = has_but_cases x y k.under_way (has_from_name y (but_for x k.under_way) now) in
          (name_from_has y k.under_way c.0, c.1);
      flies_still =
          λ y was.
          ⊎_elim (λ (same : y ≡ x). inl same)
          (λ (more : Has (but_for x k.under_way) y). inr (name_from_has y (but_for x k.under_way) more))
          (has_but x y k.under_way (has_from_name y k.under_way was));
      taken_here =
          λ y now.
          ⊎_elim (λ (same : x ≡ y). inl (sym same))
          (λ (more : Has k.taken y). inr (name_from_has y k.taken more))
          (has_from_name y (x ∷ k.taken) now);
      taken_this = name_from_has x (x ∷ k.taken) (inl refl);
      taken_still = λ y was. name_from_has y (x ∷ k.taken) (inr (has_from_name y k.taken was));
      ends_alone = ends_alone;
      last = last;
    }

    has_new : Cases → HasSpot ring x.to (mode new.round) new.spot
    has_new (inl e) = subst (λ q. HasSpot ring x.to (mode q.round) q.spot) (sym e) (f.has x.to to_within)
    has_new (inr e) = subst (λ q. HasSpot ring x.to (mode q.round) q.spot) (sym e.2) tt

    fits_took : FitsBy course took
    fits_took = record {
      has = λ j lt. ⊎_elim
          (λ (e : j ≡ x.to).
          subst
          (λ i.
          HasSpot ring i (mode (standing_of took.standings i).round) (standing_of took.standings i).spot)
          (sym e) (subst (λ q. HasSpot ring x.to (mode q.round) q.spot) (sym here') (has_new cases)))
          (λ (ne : j ≢ x.to). subst (λ q. HasSpot ring j (mode q.round) q.spot) (sym (other' j ne)) (f.has j lt))
          (cases_eq j x.to);
      fits = takes_keeps ring.machines Named (names_are_planned course) v (view_of took) f.fits x takes;
    }

  round_new : Cases → new.round ≡ round_of new.round new.spot
  round_new (inl e) = subst (λ q. q.round ≡ round_of q.round q.spot) (sym e) (settled.rules.rounds x.to to_within)
  round_new (inr e) = subst (λ q. q.round ≡ round_of q.round q.spot) (sym e.2) refl

  pub same_zero : zero_round took ≡ zero_round k
  same_zero = ap (λ q. q.round) zero_standing

  rules_took : Rules ring blocks took
  rules_took = record {
    all_there = set_length k.standings x.to new ∙ settled.rules.all_there;
    rounds = λ j lt. ⊎_elim
        (λ (e : j ≡ x.to).
        subst
        (λ i.
        (standing_of took.standings i).round ≡ round_of (standing_of took.standings i).round
        (standing_of took.standings i).spot)
        (sym e) (subst (λ q. q.round ≡ round_of q.round q.spot) (sym here') (round_new cases)))
        (λ (ne : j ≢ x.to).
        subst (λ q. q.round ≡ round_of q.round q.spot) (sym (other' j ne)) (settled.rules.rounds j lt))
        (cases_eq j x.to);
    low = λ j lt. let e = place' j in let was = settled.rules.low j lt in omega arith;
    allowed = settled.rules.allowed;
    zero_going =
        λ on later.
        let e = same_zero in
        λ stop.
        settled.rules.zero_going (sym over_0 ∙ on) (omega arith) (sym (ap (ruling_in k.rulings) e) ∙ stop);
    zero_over = λ over. ap (ruling_in k.rulings) same_zero ∙ settled.rules.zero_over (sym over_0 ∙ over);
    stop_flies = λ y now verdict stop.
        let c = has_but_cases x y k.under_way (has_from_name y (but_for x k.under_way) now) in
        let z = settled.rules.stop_flies y (name_from_has y k.under_way c.0) verdict stop in
        (over_0 ∙ z.0, ap place_of zero_standing ∙ z.1);
    stop_taken = λ y taken verdict stop. ⊎_elim
        (λ (same : x ≡ y).
        let kind : x.kind ≡ Verdict = ap (λ z. z.kind) same ∙ verdict in
        let ruled : known ≡ Stop = ap (λ z. ruling_in k.rulings z.round) same ∙ stop in
        subst (λ z. is_over (standing_of took.standings z.to).spot ≡ true) same
        (ap (λ q. is_over q.spot) here' ∙ over_when x.kind known s kind ruled))
        (λ (more : Has k.taken y).
        let over = settled.rules.stop_taken y (name_from_has y k.taken more) verdict stop in
        let ne : y.to ≢ x.to = λ e. false≢true (sym not_over_s ∙ subst (λ j. v.over j ≡ true) e over) in
        ap (λ q. is_over q.spot) (other' y.to ne) ∙ over)
        (has_from_name y (x ∷ k.taken) taken);
    once = once_but x k.under_way settled.rules.once;
    over_zero = λ j lt over. ⊎_elim
        (λ (e : j ≡ x.to).
        let over_x : is_over (standing_of took.standings x.to).spot ≡ true =
        subst (λ q. is_over (standing_of took.standings q).spot ≡ true) e over in
        over_0 ∙ (ended (sym (ap (λ q. is_over q.spot) here') ∙ over_x) cases).1)
        (λ (ne : j ≢ x.to). over_0 ∙ settled.rules.over_zero j lt (sym (ap (λ q. is_over q.spot) (other' j ne)) ∙ over))
        (cases_eq j x.to);
  }

  pub took_settles : Settled ring few blocks took
  took_settles =
      record {
        rules = rules_took;
        by =
            λ mode not_stop agrees.
            fits_took mode not_stop (λ r le. let e = same_zero in agrees r (omega arith));
      }

  pub take_settles : (ruling : Ruling) → Settled ring few blocks (step_of ring ruling (Take x) k)
  take_settles ruling = subst (λ q. Settled ring few blocks q) (sym (step_is ruling)) took_settles
