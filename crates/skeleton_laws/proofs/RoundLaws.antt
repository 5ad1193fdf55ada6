-- Machines go through the rounds together, and by the rulings made.
use Rattle.std.proofs.Common.{◌≡◌, ◌≢◌, ◌⊎◌, ℕ, zero, suc, ◌+◌, ◌*◌, ◌<◌, ◌≤◌, true, false, Some, refl, ap, sym, ◌∙◌, subst, inl, inr, arith, ⊎_elim, slice_get}
use Rattle.std.specs.List.{Contains}
use Rattle.std.proofs.lemmas.Bool.{cases_lt}
use Rattle.std.proofs.lemmas.Option.{slice_get_within, same_Some}
use Rattle.vert_base.specs.declared.message.Name.{Name}
use Rattle.vert_base.specs.declared.message.NameKind.{NameKind}
use Rattle.vert_base.specs.declared.message.NameKind.TheVariants.{Refresh, Dep, Update, Push, Tally, Verdict}
use Rattle.vert_base.specs.declared.message.Event.{Event}
use Rattle.vert_base.specs.declared.message.Event.TheVariants.{Go, Take}
use Rattle.vert_base.specs.declared.value.Ruling.{Ruling}
use Rattle.vert_base.specs.declared.value.Ruling.TheVariants.{Stop, Dense, Sparse}
use Rattle.vert_base.specs.Names.{kind_place}
use Rattle.circulant_plan.specs.declared.spot.Ring.{Ring}
use Rattle.circulant_plan.specs.declared.spot.Spot.{Spot}
use Rattle.circulant_plan.specs.declared.spot.Spot.TheVariants.{Tell, Judge, Begin, Scan, Close, Over}
use Rattle.circulant_plan.specs.Table.{gives_of}
use Rattle.circulant_plan.specs.Standing.{Standing, round_of, place_of}
use Rattle.circulant_plan.specs.Deliveries.{HasSpot, tally_at, sent_of_kind, sending_spot}
use Rattle.circulant_plan.specs.Skeleton.{Skeleton, has_name, ruling_in, is_possible, step_of}
use Rattle.circulant_plan.specs.Runs.{round_at, judged_round}
use Rattle.circulant_plan.proofs.Members.{Has, contains_from_has}
use Rattle.circulant_plan.proofs.SendingLaws.{sent_at, sent_round}
use Rattle.circulant_plan.proofs.NameLaws.{IsName, needed_later, verdict_is}
use Rattle.skeleton_laws.specs.Laws.{IsTakeable, IsTaken, IsStandingOf}
use Rattle.skeleton_laws.proofs.Settled.{SettledState, course_in, names_are_planned, view_of, zero_round, FitsBy, going_mode, mode_in, modes_in, agrees_in, over_place}
use Rattle.skeleton_laws.proofs.ReachedSettles.{turn_by, taking_by, acting_of, go_is, step_settles}
use Rattle.skeleton_laws.proofs.Kept.{View, WasSent}
use Rattle.skeleton_laws.proofs.Standings.{standing_of, got}
use Rattle.skeleton_laws.proofs.GoSettles.{old, zero_grows, known_going, known_round}
use Rattle.skeleton_laws.proofs.TakeSettles.{same_zero, step_is}
use Rattle.skeleton_laws.proofs.Lockstep.{offset_at, zero_from, zero_reaches, ruled_at}

going_same : (a : Ruling) → a ≢ Stop → going_mode a ≡ a
going_same Stop on = absurd (on refl)
going_same Dense on = refl
going_same Sparse on = refl

not_kind : (j k : NameKind) → (kind_place j ≡ kind_place k → ⊥) → j ≡ k → ⊥
not_kind j k ne e = ne (ap kind_place e)

-- a verdict, and a tally of round 0, are sent whatever the mode
tally_other : (ring : Ring) (j r : ℕ) (a b : Ruling) (x : Name) → r ≡ 0 →
    HasSpot ring j a (tally_at r a) × Has (gives_of ring j (tally_at r a) a) x →
    HasSpot ring j b (tally_at r b) × Has (gives_of ring j (tally_at r b) b) x
tally_other ring j zero a b x e h = h
tally_other ring j (suc r) a b x e h = absurd (omega arith)

other_mode : (ring : Ring) (kind : NameKind) (a b : Ruling) (x : Name) → (kind ≡ Verdict) ⊎ (x.round ≡ 0) →
    HasSpot ring x.from a (sent_of_kind kind a x) × Has (gives_of ring x.from (sent_of_kind kind a x) a) x →
    HasSpot ring x.from b (sent_of_kind kind b x) × Has (gives_of ring x.from (sent_of_kind kind b x) b) x
other_mode ring Refresh a b x (inl e) h = absurd (not_kind Refresh Verdict (λ q. omega arith) e)
other_mode ring Refresh a b x (inr e) h = absurd (let some = h.0 in omega arith)
other_mode ring Dep a b x (inl e) h = absurd (not_kind Dep Verdict (λ q. omega arith) e)
other_mode ring Dep a b x (inr e) h = absurd (let some = h.0.0 in omega arith)
other_mode ring Update a b x (inl e) h = absurd (not_kind Update Verdict (λ q. omega arith) e)
other_mode ring Update a b x (inr e) h = absurd (let some = h.0.0 in omega arith)
other_mode ring Push a b x (inl e) h = absurd (not_kind Push Verdict (λ q. omega arith) e)
other_mode ring Push a b x (inr e) h = absurd (let some = h.0 in omega arith)
other_mode ring Tally a b x (inl e) h = absurd (not_kind Tally Verdict (λ q. omega arith) e)
other_mode ring Tally a b x (inr e) h = tally_other ring x.from x.round a b x e h
other_mode ring Verdict a b x e h = h

pub kind_cases : (kind : NameKind) → (kind ≡ Verdict) ⊎ (kind ≢ Verdict)
kind_cases Refresh = inr (not_kind Refresh Verdict (λ q. omega arith))
kind_cases Dep = inr (not_kind Dep Verdict (λ q. omega arith))
kind_cases Update = inr (not_kind Update Verdict (λ q. omega arith))
kind_cases Push = inr (not_kind Push Verdict (λ q. omega arith))
kind_cases Tally = inr (not_kind Tally Verdict (λ q. omega arith))
kind_cases Verdict = inl refl

module _ (state : SettledState) where
  open state use {ring, few, some, blocks, k, settled}

  fit : FitsBy (course_in state) k
  fit = settled.by (mode_in k) (modes_in k) (agrees_in k)

  abbrev Named : Name → Type 0
  Named = IsName (course_in state)

  abbrev v : View
  v = view_of k

  zero_lt : 0 < ring.machines
  zero_lt = omega arith

  judged_is : judged_round k ≡ zero_round k + 1
  judged_is = ap (λ o. round_at o + 1) (got k.standings 0 (let e = settled.rules.all_there in omega arith))

  verdict_early : (x : Name) → Named x → WasSent v x → x.kind ≡ Verdict → x.round ≤ zero_round k
  verdict_early x named was verdict =
      let is = verdict_is (course_in state) x named verdict in
      let was_0 : sent_at x < v.place 0 = subst (λ j. sent_at x < v.place j) is.from was in
      let sent = is.sent in
      let later = is.later in
      let off = offset_at state 0 zero_lt in
      omega arith

  -- a message that was sent is of a round that was ruled
  sent_early : (x : Name) → Named x → WasSent v x → x.round ≤ zero_round k
  sent_early x named was =
      ⊎_elim
      (λ (verdict : x.kind ≡ Verdict). verdict_early x named was verdict)
      (λ (le : 256 * x.round ≤ sent_at x).
      ⊎_elim
      (λ (none : x.round < 1). omega arith)
      (λ (later : 1 ≤ x.round).
      zero_reaches state x.round (zero_from state x.round x.from later named.from (omega arith)))
      (cases_lt x.round 1))
      (sent_round x)

  flying_ruled : (x : Name) → Named x → WasSent v x → v.place x.to < 256 * x.round + 256 →
      x.kind ≢ Verdict → 1 ≤ x.round → ruling_in k.rulings x.round ≢ Stop
  flying_ruled x named was not_left other later =
      ⊎_elim
      (λ (verdict : x.kind ≡ Verdict). absurd (other verdict))
      (λ (le : 256 * x.round ≤ sent_at x).
      ruled_at state x.round x.from x.to later named.from (needed_later (course_in state) x named).to
      (omega arith) not_left)
      (sent_round x)

  sent_by_at : (x : Name) → Named x → (mode : Ruling) → mode_in k x.round ≡ mode →
      HasSpot ring x.from mode (sending_spot mode x) × Contains
      (gives_of ring x.from (sending_spot mode x) mode) x
  sent_by_at x named mode e =
      subst
      (λ a.
      HasSpot ring x.from a (sending_spot a x) × Contains (gives_of ring x.from (sending_spot a x) a) x) e (
        named.has,
        contains_from_has
            (gives_of ring x.from (sending_spot (mode_in k x.round) x) (mode_in k x.round)) x named.sent,
      )

  sent_by_other : (x : Name) → Named x → (mode : Ruling) → (x.kind ≡ Verdict) ⊎ (x.round ≡ 0) →
      HasSpot ring x.from mode (sending_spot mode x) × Contains
      (gives_of ring x.from (sending_spot mode x) mode) x
  sent_by_other x named mode e =
      let h = other_mode ring x.kind (mode_in k x.round) mode x e (named.has, named.sent) in
      (h.0, contains_from_has (gives_of ring x.from (sending_spot mode x) mode) x h.1)

  pub takeable_at : (x : Name) → has_name x k.under_way ≡ true → IsTakeable ring blocks k x
  takeable_at x flew =
      let flight = fit.fits.flies x flew in
      let n = needed_later (course_in state) x flight.named in
      let plan = names_are_planned (course_in state) in
      let s = standing_of k.standings x.to in
      let off = offset_at state x.to n.to in
      let entered = flight.entered in
      let not_past = flight.not_past in
      let high = plan.needed_to x flight.named in
      let was = flight.was_sent in
      let early = sent_early x flight.named flight.was_sent in
      let judged = judged_is in
      let low_to = settled.rules.low x.to n.to in
      let low_from = settled.rules.low x.from flight.named.from in
      let all = settled.rules.all_there in
      let to = n.to in
      record {
        at = s;
        stands = got k.standings x.to (omega arith);
        going = flight.not_over;
        round = omega arith;
        not_past = not_past;
        new = flight.not_taken;
        from = flight.named.from;
        to = n.to;
        other = n.other;
        needed = n.needed;
        judged = omega arith;
        within =
            λ other.
            ⊎_elim (λ (verdict : x.kind ≡ Verdict). absurd (other verdict))
            (λ (le : 256 * x.round ≤ sent_at x). omega arith) (sent_round x);
        within_one = omega arith;
        sent = λ mode goes ruled. ⊎_elim
            (λ (verdict : x.kind ≡ Verdict). sent_by_other x flight.named mode (inl verdict))
            (λ (other : x.kind ≢ Verdict).
            ⊎_elim
            (λ (none : x.round < 1). sent_by_other x flight.named mode (inr (omega arith)))
            (λ (later : 1 ≤ x.round).
            let on = flying_ruled x flight.named flight.was_sent (omega arith) other later in
            sent_by_at x flight.named mode (going_same (ruling_in k.rulings x.round) on ∙ ruled other later))
            (cases_lt x.round 1))
            (kind_cases x.kind);
        ruled =
            λ other later. (
              flying_ruled x flight.named flight.was_sent (omega arith) other later,
              settled.rules.allowed x.round,
            );
      }

  pub taken_at : (x : Name) → has_name x k.taken ≡ true → IsTaken ring k x
  taken_at x taken =
      let t = fit.fits.taken x taken in
      let n = needed_later (course_in state) x t.0 in
      let s = standing_of k.standings x.to in
      let off = offset_at state x.to n.to in
      let low = t.2 in
      let all = settled.rules.all_there in
      let to = n.to in
      let early = sent_early x t.0 t.1 in
      let judged = judged_is in
      record {
        at = s;
        stands = got k.standings x.to (omega arith);
        reached = omega arith;
        from = t.0.from;
        to = n.to;
        other = n.other;
        judged = omega arith;
      }

  -- each machine has its spot by the ruling of its round
  has_ruled : (m : ℕ) → m < ring.machines → (spot : Spot) (round : ℕ) →
      standing_of k.standings m ≡ record { spot = spot; round = round } → round ≡ round_of round spot →
      HasSpot ring m (mode_in k round) spot → HasSpot ring m (ruling_in k.rulings round) spot
  has_ruled m lt Tell round at e has = tt
  has_ruled m lt (Judge r) round at e has = has
  has_ruled m lt (Begin r) round at e has = has
  has_ruled m lt (Scan r s h) round at e has =
      let place : v.place m ≡ 256 * round + (1 + 2 * s + h) = ap place_of at in
      let later = has.0 in let step = has.1 in let half = has.2 in
      let on = ruled_at state round m m (omega arith) lt lt (omega arith) (omega arith) in
      (has.0, has.1, has.2, sym (going_same (ruling_in k.rulings round) on) ∙ has.3)
  has_ruled m lt (Close r true) round at e has =
      let place : v.place m ≡ 256 * round + 254 = ap place_of at in
      let later = has.0 in
      let on = ruled_at state round m m (omega arith) lt lt (omega arith) (omega arith) in
      (has.0, sym (going_same (ruling_in k.rulings round) on) ∙ has.1)
  has_ruled m lt (Close r false) round at e has =
      let place : v.place m ≡ 256 * round + 254 = ap place_of at in
      let later = has.0 in
      let on = ruled_at state round m m (omega arith) lt lt (omega arith) (omega arith) in
      (has.0, sym (going_same (ruling_in k.rulings round) on) ∙ has.1)
  has_ruled m lt Over round at e has = tt

  over_round : (j : ℕ) → j < ring.machines → v.over j ≡ true →
      ruling_in k.rulings (standing_of k.standings j).round ≡ Stop
  over_round j lt over =
      let over_0 = settled.rules.over_zero j lt over in
      let a = fit.fits.over_last j 0 lt zero_lt over in
      let b = fit.fits.over_last 0 j zero_lt lt over_0 in
      let c = over_place (standing_of k.standings j) over in
      let d = over_place (standing_of k.standings 0) over_0 in
      let same : (standing_of k.standings j).round ≡ zero_round k = omega arith in
      ap (ruling_in k.rulings) same ∙ settled.rules.zero_over over_0

  pub standing_is : (m : ℕ) (s : Standing) → slice_get k.standings m ≡ Some s → IsStandingOf ring blocks k m s
  standing_is m s stands =
      let here = slice_get_within k.standings m s stands in
      let all = settled.rules.all_there in
      let lt : m < ring.machines = omega arith in
      let same : standing_of k.standings m ≡ s =
      same_Some (standing_of k.standings m) s (sym (got k.standings m here) ∙ stands) in
      let low = settled.rules.low m lt in
      subst (λ q. IsStandingOf ring blocks k m q) same (record {
        machine = lt;
        round = settled.rules.rounds m lt;
        within = omega arith;
        has =
            has_ruled m lt (standing_of k.standings m).spot (standing_of k.standings m).round refl
            (settled.rules.rounds m lt) (fit.has m lt);
        over = over_round m lt;
      })

  -- the rulings made stay
  pub rulings_stay : (ruling : Ruling) (e : Event) → is_possible ring blocks ruling e k ≡ true →
      (judged_round k ≤ judged_round (step_of ring ruling e k)) ×
      ((r : ℕ) → r < judged_round k → ruling_in (step_of ring ruling e k).rulings r ≡ ruling_in k.rulings r)
  rulings_stay ruling e can =
      stay_from e can
      (ap (λ o. round_at o + 1) (got (step_of ring ruling e k).standings 0
      (let q = (step_settles state ruling e can).rules.all_there in omega arith))) where
        stay_from : (e : Event) → is_possible ring blocks ruling e k ≡ true →
            judged_round (step_of ring ruling e k) ≡ zero_round (step_of ring ruling e k) + 1 →
            (judged_round k ≤ judged_round (step_of ring ruling e k)) ×
            ((r : ℕ) → r < judged_round k →
            ruling_in (step_of ring ruling e k).rulings r ≡ ruling_in k.rulings r)
        stay_from (Go m) can judged =
            let a = acting_of state ruling m can in
            let spot = (standing_of k.standings m).spot in
            let is = go_is state ruling m a in
            let grows : zero_round k ≤ zero_round (step_of ring ruling (Go m) k) =
            subst (λ q. zero_round k ≤ zero_round q) (sym is) (zero_grows (turn_by state ruling m a)) in
            let before = judged_is in (
              omega arith,
              λ r lt. ap (λ (q : Skeleton). ruling_in q.rulings r) is ∙ old (turn_by state ruling m a) r (omega arith),
            )
        stay_from (Take x) can judged =
            let is = step_is (taking_by state x can) ruling in
            let same : zero_round (step_of ring ruling (Take x) k) ≡ zero_round k =
            ap zero_round is ∙ same_zero (taking_by state x can) in
            let before = judged_is in
            (omega arith, λ r lt. refl)

  -- who begins a round has a mode for it
  pub begins : (ruling : Ruling) (m r : ℕ) → is_possible ring blocks ruling (Go m) k ≡ true →
      (standing_of k.standings m).spot ≡ Begin r → (ruling_in k.rulings r ≢ Stop) × (r < judged_round k)
  begins ruling m r can e =
      let a = acting_of state ruling m can in
      let spot = (standing_of k.standings m).spot in
      let le = known_round (turn_by state ruling m a) r e in
      let judged = judged_is in
      (known_going (turn_by state ruling m a) r e, omega arith)
