-- The action of a machine leaves a state that is settled again.
use Rattle.std.proofs.Common.{◌≡◌, ◌≢◌, ◌⊎◌, ℕ, ◌+◌, ◌-◌, ◌*◌, ◌<◌, ◌≤◌, true, false, length, Some, refl, ap, sym, ◌∙◌, subst, inl, inr, arith, ⊎_elim}
use Rattle.std.proofs.lemmas.Bool.{cases_lt, cases_eq, false≢true, cases_Bool}
use Rattle.vert_base.specs.declared.message.Name.{Name}
use Rattle.vert_base.specs.declared.message.NameKind.TheVariants.{Verdict}
use Rattle.vert_base.specs.declared.value.Ruling.{Ruling}
use Rattle.vert_base.specs.declared.value.Ruling.TheVariants.{Stop}
use Rattle.circulant_plan.specs.declared.spot.Spot.{Spot}
use Rattle.circulant_plan.specs.declared.spot.Spot.TheVariants.{Judge, Begin}
use Rattle.circulant_plan.specs.Names.{tally_name, verdict_name}
use Rattle.circulant_plan.specs.Table.{needs_of, gives_of}
use Rattle.circulant_plan.specs.Standing.{Standing, standing_at, round_of, place_of, offset_of}
use Rattle.circulant_plan.specs.Deliveries.{HasSpot, sending_spot, needing_spot, place_at}
use Rattle.circulant_plan.specs.Skeleton.{Skeleton, has_name, ruling_in, is_over, is_ready, rules_rightly, acting_ruling, rulings_after, go_at}
use Rattle.circulant_plan.proofs.GiftLists.{once_gives}
use Rattle.circulant_plan.proofs.NameLists.{name_from_has, once_append, name_append_cases, name_left, name_right}
use Rattle.circulant_plan.proofs.ActionLaws.{Course, course_by, next_of, Acts, acts}
use Rattle.circulant_plan.proofs.Members.{Has, has_from_contains}
use Rattle.circulant_plan.proofs.StandingLaws.{not_zero}
use Rattle.circulant_plan.proofs.SendingLaws.{sent_at, needed_at, sent_place, sent_round, needing_not_over, sending_not_over, tally_sent}
use Rattle.circulant_plan.proofs.NameLaws.{IsName, offset_small, needed_later, gift_is_name, name_is_gift, verdict_named, tally_named, verdict_is, has_round, at_begin}
use Rattle.skeleton_laws.proofs.Kept.{View, WasSent, Goes, goes_keeps}
use Rattle.skeleton_laws.proofs.Standings.{standing_of, set_length, set_here, set_other}
use Rattle.skeleton_laws.proofs.Settled.{names_are_planned, view_of, zero_round, Agrees, Rules, FitsBy, SettledState, course_in, Settled, mode_in, modes_in, agrees_in, over_place, all_at}
use Rattle.skeleton_laws.proofs.GoFacts.{old_ruling, ruling_here, allowed_after, may_limit, ends_at_judge, same_round, judges, IsJudge, judge, other, judge_round, judge_over, judge_going, acting_judge, acting_begin}
use Rattle.skeleton_laws.proofs.Lockstep.{past_close, together}

-- a settled state, and a machine whose action is possible there
pub record Turn : Type 0 where
  pub state : SettledState
  pub m : ℕ
  pub within : m < state.ring.machines
  pub ruling : Ruling
  pub spot : Spot
  pub at : standing_of state.k.standings m ≡ standing_at 0 spot
  pub going : is_over spot ≡ false
  pub ready : is_ready state.ring m (standing_at 0 spot) state.k.taken ≡ true
  pub rightly : rules_rightly state.blocks ruling spot ≡ true

module _ (turn : Turn) where
  open turn use {state, m, within, ruling, spot, at, going, ready, rightly}
  open state use {ring, few, some, blocks, k, settled}

  abbrev pub acting : Ruling
  acting = acting_ruling ruling (ruling_in k.rulings (round_of 0 spot)) spot

  abbrev pub next : Standing
  next = next_of ring m acting spot

  abbrev pub gone : Skeleton
  gone = go_at ring ruling m (Some (standing_at 0 spot)) k

  abbrev v : View
  v = view_of k

  pub m_here : m < length k.standings
  m_here = let e = settled.rules.all_there in omega arith

  place_m : v.place m ≡ place_at spot
  place_m = ap place_of at

  going_m : v.over m ≡ false
  going_m = ap (λ s. is_over s.spot) at ∙ going

  pub here' : standing_of gone.standings m ≡ next
  here' = set_here k.standings m next m_here

  pub other' : (j : ℕ) → j ≢ m → standing_of gone.standings j ≡ standing_of k.standings j
  other' j ne = set_other k.standings m j next ne

  fitted : FitsBy (course_in state) k
  fitted = settled.by (mode_in k) (modes_in k) (agrees_in k)

  pub has_0 : HasSpot ring m (mode_in k (round_of 0 spot)) spot
  has_0 = subst (λ s. HasSpot ring m (mode_in k s.round) s.spot) at (fitted.has m within)

  taken_need : (x : Name) → Has (needs_of ring m spot) x → has_name x k.taken ≡ true
  taken_need x h = all_at (λ y. has_name y k.taken) (needs_of ring m spot) x ready h

  pub zero_is : m ≡ 0 → standing_of k.standings 0 ≡ standing_at 0 spot
  zero_is first = subst (λ j. standing_of k.standings j ≡ standing_at 0 spot) first at

  zero_goes : m ≡ 0 → v.over 0 ≡ false
  zero_goes first = subst (λ j. v.over j ≡ false) first going_m

  pub zero' : m ≡ 0 → standing_of gone.standings 0 ≡ next
  zero' first = subst (λ j. standing_of gone.standings j ≡ next) first here'

  pub zero_same : m ≢ 0 → standing_of gone.standings 0 ≡ standing_of k.standings 0
  zero_same ne = other' 0 (λ e. ne (sym e))

  verdict_taken : (r : ℕ) → spot ≡ Begin r → m ≢ 0 → has_name (verdict_name r m) k.taken ≡ true
  verdict_taken r e ne =
      let listed : Has (needs_of ring m (Begin r)) (verdict_name r m) = rw (not_zero m ne) (inl refl) in
      taken_need (verdict_name r m) (subst (λ q. Has (needs_of ring m q) (verdict_name r m)) (sym e) listed)

  pub begin_later : (r : ℕ) → spot ≡ Begin r → 1 ≤ r
  begin_later r e = subst (λ q. HasSpot ring m (mode_in k (round_of 0 q)) q) e has_0

  pub judge_zero : (r : ℕ) → spot ≡ Judge r → m ≡ 0
  judge_zero r e = subst (λ q. HasSpot ring m (mode_in k (round_of 0 q)) q) e has_0

  pub zero_round_is : m ≡ 0 → zero_round k ≡ round_of 0 spot
  zero_round_is first = ap (λ s. s.round) (zero_is first)

  pub known_going : (r : ℕ) → spot ≡ Begin r → ruling_in k.rulings r ≢ Stop
  known_going r e stop =
      ⊎_elim
      (λ (first : m ≡ 0).
      let same : zero_round k ≡ r = zero_round_is first ∙ ap (round_of 0) e in
      let later = begin_later r e in
      settled.rules.zero_going (zero_goes first) (omega arith)
      (subst (λ q. ruling_in k.rulings q ≡ Stop) (sym same) stop))
      (λ (ne : m ≢ 0).
      false≢true (sym going_m ∙ settled.rules.stop_taken (verdict_name r m) (verdict_taken r e ne) refl stop))
      (cases_eq m 0)

  zero_offset : offset_of (standing_of k.standings 0).spot < 256
  zero_offset =
      offset_small (course_in state) 0 (mode_in k (zero_round k)) (standing_of k.standings 0).spot
      (fitted.has 0 (omega arith))

  pub known_round : (r : ℕ) → spot ≡ Begin r → r ≤ zero_round k
  known_round r e =
      ⊎_elim
      (λ (first : m ≡ 0). let same : zero_round k ≡ r = zero_round_is first ∙ ap (round_of 0) e in omega arith)
      (λ (ne : m ≢ 0).
      let was : 256 * (r - 1) + 255 < v.place 0 = (fitted.fits.taken (verdict_name r m) (verdict_taken r e ne)).1 in
      let small_0 = zero_offset in
      omega arith)
      (cases_eq m 0)

  pub mine : (mode : ℕ → Ruling) → Agrees mode k → (r : ℕ) → spot ≡ Begin r → acting ≡ mode r
  mine mode agrees r e =
      acting_begin ruling k.rulings spot r e
      ∙ ⊎_elim (λ (stop : ruling_in k.rulings r ≡ Stop). absurd (known_going r e stop))
      (λ (same : ruling_in k.rulings r ≡ mode r). same) (agrees r (known_round r e))

  pub acting_goes : (r : ℕ) → spot ≡ Begin r → acting ≢ Stop
  acting_goes r e stop = known_going r e (sym (acting_begin ruling k.rulings spot r e) ∙ stop)

  acts_here : Acts (course_in state) m within acting spot
  acts_here = acts (course_in state) m within acting spot has_0 going (mine (mode_in k) (agrees_in k))

  pub later_next : place_at spot < place_of next
  later_next = acts_here.later

  round_grows : round_of 0 spot ≤ next.round
  round_grows =
      let later = acts_here.later in
      let off = offset_small (course_in state) m (mode_in k next.round) next.spot acts_here.has in
      omega arith

  pub zero_grows : zero_round k ≤ zero_round gone
  zero_grows =
      ⊎_elim
      (λ (first : m ≡ 0).
      let a = zero_round_is first in
      let b : zero_round gone ≡ next.round = ap (λ s. s.round) (zero' first) in
      let g = round_grows in
      omega arith)
      (λ (ne : m ≢ 0). let b : zero_round gone ≡ zero_round k = ap (λ s. s.round) (zero_same ne) in omega arith)
      (cases_eq m 0)

  pub old : (q : ℕ) → q ≤ zero_round k → ruling_in gone.rulings q ≡ ruling_in k.rulings q
  old q le =
      old_ruling spot ruling k.rulings q
      (λ r e.
      let same : zero_round k ≡ r = zero_round_is (judge_zero r e) ∙ ap (round_of 0) e in
      omega arith)

  agrees_back : (mode : ℕ → Ruling) → Agrees mode gone → Agrees mode k
  agrees_back mode agrees r le =
      let o = old r le in
      let g = zero_grows in
      ⊎_elim (λ (stop : ruling_in gone.rulings r ≡ Stop). inl (sym o ∙ stop))
      (λ (same : ruling_in gone.rulings r ≡ mode r). inr (sym o ∙ same)) (agrees r (omega arith))

  -- the judge whose action ends the list of machine 0
  pub ends_here : is_over next.spot ≡ true → (r : ℕ) × (spot ≡ Judge r) × (acting ≡ Stop)
  ends_here over = ends_at_judge ring m acting spot going acting_goes over

  module _ (mode : ℕ → Ruling) (not_stop : (r : ℕ) → mode r ≢ Stop) (agrees : Agrees mode k) where
    abbrev course : Course
    course = course_by ring few mode not_stop

    abbrev Named : Name → Type 0
    Named = IsName course

    f : FitsBy course k
    f = settled.by mode not_stop agrees

    has_m : HasSpot ring m (mode (round_of 0 spot)) spot
    has_m = subst (λ s. HasSpot ring m (mode s.round) s.spot) at (f.has m within)

    a : Acts course m within acting spot
    a = acts course m within acting spot has_m going (mine mode agrees)

    sent_here : (x : Name) → Named x → x.from ≡ m → v.place m ≤ sent_at x → sent_at x < place_of next →
        sending_spot (mode x.round) x ≡ spot
    sent_here x named from low high =
        let t = sending_spot (mode x.round) x in
        let e : place_at t ≡ sent_at x = sent_place (mode x.round) x (not_stop x.round) in
        let q = place_m in
        a.between t (record {
          has = subst (λ j. HasSpot ring j (mode (round_of 0 t)) t) from (has_round course x named);
          going = sending_not_over (mode x.round) x (not_stop x.round);
          low = omega arith;
          high = omega arith;
        })

    needed_here : (x : Name) → Named x → x.to ≡ m → v.place m ≤ needed_at ring.machines x →
        needed_at ring.machines x < place_of next → has_name x k.taken ≡ true
    needed_here x named to low high =
        let n = needed_later course x named in
        let t = needing_spot ring.machines x in
        let q = place_m in
        let has_t : HasSpot ring m (mode (round_of 0 t)) t =
        subst (λ j. HasSpot ring j (mode (round_of 0 t)) t) to
        (subst (λ i. HasSpot ring x.to (mode i) t) n.round n.has) in
        let same : t ≡ spot =
        a.between t
        (record
        { has = has_t; going = needing_not_over ring.machines x; low = omega arith; high = omega arith })
        in
        let there : Has (needs_of ring m t) x =
        subst (λ j. Has (needs_of ring j t) x) to (has_from_contains (needs_of ring x.to t) x n.needed) in
        taken_need x (subst (λ i. Has (needs_of ring m i) x) same there)

    -- and where one is that acts, machine 0 is
    zero_with : (q : ℕ) → 1 ≤ q → 256 * q ≤ v.place m → 256 * q ≤ v.place 0
    zero_with q later le =
        ⊎_elim
        (λ (e : m ≡ 0). subst (λ i. 256 * q ≤ v.place i) e le)
        (λ (ne : m ≢ 0).
        let x = verdict_name q m in
        let named : Named x = verdict_named course q m later within ne in
        let forward = a.later in
        let pm = place_m in
        let was : 256 * (q - 1) + 255 < v.place 0 =
        ⊎_elim
        (λ (past : 256 * q < v.place m). f.fits.needs_sent x named (omega arith))
        (λ (here : v.place m ≤ 256 * q). (f.fits.taken x (needed_here x named refl (omega arith) (omega arith))).1)
        (cases_lt (256 * q) (v.place m)) in
        omega arith)
        (cases_eq m 0)

    entered : (x : Name) → Named x → x.from ≡ m → sent_at x ≡ v.place m → 256 * x.round ≤ v.place x.to
    entered x named from e =
        let n = needed_later course x named in
        let forward = a.later in
        let pm = place_m in
        ⊎_elim
        (λ (verdict : x.kind ≡ Verdict).
        let is = verdict_is course x named verdict in
        let later = is.later in
        let sent = is.sent in
        let first : m ≡ 0 = sym from ∙ is.from in
        let ne : x.to ≢ 0 = λ z. n.other (z ∙ sym is.from) in
        let y = tally_name (x.round - 1) x.to in
        let named_y : Named y = tally_named course (x.round - 1) x.to n.to ne in
        let was : sent_at y < v.place x.to =
        (f.fits.taken y (needed_here y named_y (sym first) (omega arith) (omega arith))).1 in
        let t = tally_sent (x.round - 1) x.to in
        let p = past_close state x.to (x.round - 1) n.to ne (omega arith) in
        omega arith)
        (λ (le : 256 * x.round ≤ sent_at x).
        ⊎_elim
        (λ (none : x.round < 1). omega arith)
        (λ (later : 1 ≤ x.round). together state x.round x.to later n.to (zero_with x.round later (omega arith)))
        (cases_lt x.round 1))
        (sent_round x)

    receives : (x : Name) → Named x → x.from ≡ m → sent_at x ≡ v.place m →
        v.place x.to ≤ needed_at ring.machines x → is_over (standing_of gone.standings x.to).spot ≡ false
    receives x named from e not_past =
        let n = needed_later course x named in
        let ne : x.to ≢ m = λ same. n.other (same ∙ sym from) in
        ⊎_elim
        (λ (over : v.over x.to ≡ true).
        let over_0 = settled.rules.over_zero x.to n.to over in
        let other_m : m ≢ 0 = λ first. false≢true (sym (zero_goes first) ∙ over_0) in
        let zero_lt : 0 < ring.machines = omega arith in
        let behind = f.fits.over_last x.to m n.to within over in
        let same_1 = f.fits.over_last x.to 0 n.to zero_lt over in
        let same_2 = f.fits.over_last 0 x.to zero_lt n.to over_0 in
        let at_0 : v.place 0 ≡ 256 * zero_round k = over_place (standing_of k.standings 0) over_0 in
        let high = (names_are_planned course).needed_to x named in
        let pm = place_m in
        ⊎_elim
        (λ (verdict : x.kind ≡ Verdict). absurd (other_m (sym from ∙ (verdict_is course x named verdict).from)))
        (λ (low : 256 * x.round ≤ sent_at x).
        let at_m : place_at spot ≡ 256 * zero_round k = omega arith in
        let begins = at_begin course m (zero_round k) spot has_m going at_m in
        absurd (known_going (zero_round k) begins (settled.rules.zero_over over_0)))
        (sent_round x))
        (λ (goes : v.over x.to ≡ false). ap (λ s. is_over s.spot) (other' x.to ne) ∙ goes)
        (cases_Bool (v.over x.to))

    ends_alone : is_over (standing_of gone.standings m).spot ≡ true → (x : Name) → v.flies x ≡ true → x.to ≡ m → ⊥
    ends_alone over x flew to =
        let flight = f.fits.flies x flew in
        let over_n : is_over next.spot ≡ true = sym (ap (λ s. is_over s.spot) here') ∙ over in
        let at_n = over_place next over_n in
        let low : 256 * x.round ≤ v.place m = subst (λ j. 256 * x.round ≤ v.place j) to flight.entered in
        let not_past : v.place m ≤ needed_at ring.machines x =
        subst (λ j. v.place j ≤ needed_at ring.machines x) to flight.not_past in
        let high = (names_are_planned course).needed_to x flight.named in
        let forward = a.later in
        let pm = place_m in
        false≢true (sym flight.not_taken ∙ needed_here x flight.named to not_past (omega arith))

    -- nobody is past the begin that a verdict not yet given would open
    pub none_past : (r j : ℕ) → spot ≡ Judge r → j < ring.machines → v.place j ≤ 256 * r + 256
    none_past r j e lt =
        let first = judge_zero r e in
        let at_0 : v.place 0 ≡ 256 * r + 255 = subst (λ i. v.place i ≡ 256 * r + 255) first (place_m ∙ ap place_at e) in
        ⊎_elim
        (λ (z : j ≡ 0). let same : v.place j ≡ v.place 0 = ap v.place z in omega arith)
        (λ (ne : j ≢ 0).
        ⊎_elim
        (λ (past : 256 * (r + 1) < v.place j).
        let was : 256 * (r + 1 - 1) + 255 < v.place 0 =
        f.fits.needs_sent (verdict_name (r + 1) j) (verdict_named course (r + 1) j (omega arith) lt ne)
        (omega arith) in
        absurd (omega arith))
        (λ (le : v.place j ≤ 256 * (r + 1)). omega arith)
        (cases_lt (256 * (r + 1)) (v.place j)))
        (cases_eq j 0)

    -- the machine that acts doesn't pass one that is over
    not_beyond : (i : ℕ) → i < ring.machines → v.over i ≡ true → place_of next ≤ v.place i
    not_beyond i lt over =
        let over_0 = settled.rules.over_zero i lt over in
        let zero_lt : 0 < ring.machines = omega arith in
        let same_1 = f.fits.over_last i 0 lt zero_lt over in
        let same_2 = f.fits.over_last 0 i zero_lt lt over_0 in
        let at_0 : v.place 0 ≡ 256 * zero_round k = over_place (standing_of k.standings 0) over_0 in
        let behind = f.fits.over_last i m lt within over in
        let pm = place_m in
        let near = a.near in
        ⊎_elim
        (λ (sooner : v.place m < 256 * zero_round k). omega arith)
        (λ (there : 256 * zero_round k ≤ v.place m).
        let at_m : place_at spot ≡ 256 * zero_round k = omega arith in
        let begins = at_begin course m (zero_round k) spot has_m going at_m in
        absurd (known_going (zero_round k) begins (settled.rules.zero_over over_0)))
        (cases_lt (v.place m) (256 * zero_round k))

    last : (i j : ℕ) → i < ring.machines → j < ring.machines →
        is_over (standing_of gone.standings i).spot ≡ true →
        place_of (standing_of gone.standings j) ≤ place_of (standing_of gone.standings i)
    last i j lt_i lt_j over =
        ⊎_elim
        (λ (i_is : i ≡ m).
        let over_n : is_over next.spot ≡ true =
        sym (ap (λ s. is_over s.spot) here')
        ∙ subst (λ q. is_over (standing_of gone.standings q).spot ≡ true) i_is over in
        let at_n = over_place next over_n in
        let e = ends_here over_n in
        let later : place_at spot < place_of next = a.later in
        let at_j : place_at spot ≡ 256 * e.0 + 255 = ap place_at e.1 in
        let place_i : place_of (standing_of gone.standings i) ≡ place_of next =
        ap (λ q. place_of (standing_of gone.standings q)) i_is ∙ ap place_of here' in
        ⊎_elim
        (λ (j_is : j ≡ m).
        let place_j : place_of (standing_of gone.standings j) ≡ place_of next =
        ap (λ q. place_of (standing_of gone.standings q)) j_is
        ∙ ap place_of here' in
        omega arith)
        (λ (j_ne : j ≢ m). let place_j = ap place_of (other' j j_ne) in let n = none_past e.0 j e.1 lt_j in omega arith)
        (cases_eq j m))
        (λ (i_ne : i ≢ m).
        let was : v.over i ≡ true = sym (ap (λ s. is_over s.spot) (other' i i_ne)) ∙ over in
        let place_i = ap place_of (other' i i_ne) in
        ⊎_elim
        (λ (j_is : j ≡ m).
        let place_j : place_of (standing_of gone.standings j) ≡ place_of next =
        ap (λ q. place_of (standing_of gone.standings q)) j_is
        ∙ ap place_of here' in
        let n = not_beyond i lt_i was in
        omega arith)
        (λ (j_ne : j ≢ m).
        let place_j = ap place_of (other' j j_ne) in
        let n = f.fits.over_last i j lt_i lt_j was in
        omega arith)
        (cases_eq j m))
        (cases_eq i m)

    flies_new : (x : Name) → has_name x gone.under_way ≡ true →
        (v.flies x ≡ true) ⊎ (Named x × (x.from ≡ m) × (sent_at x ≡ v.place m))
    flies_new x now =
        ⊎_elim
        (λ (flew : has_name x k.under_way ≡ true). inl flew)
        (λ (given : Has (gives_of ring m spot acting) x).
        let g = gift_is_name course m within acting spot x has_m (mine mode agrees) given in
        let e : place_at (sending_spot (mode x.round) x) ≡ place_at spot = ap place_at g.by in
        let q = sent_place (mode x.round) x (not_stop x.round) in
        let pm = place_m in
        inr (g.named, g.from, omega arith))
        (name_append_cases x k.under_way (gives_of ring m spot acting) now)

    goes : Goes ring.machines Named v (view_of gone) m (place_of next)
    goes = record {
      within = within;
      going = going_m;
      forward = let pm = place_m in let later = a.later in omega arith;
      place_here = ap place_of here';
      place_other = λ j ne. ap place_of (other' j ne);
      over_other = λ j ne. ap (λ s. is_over s.spot) (other' j ne);
      flies_new = flies_new;
      flies_old = λ x flew. name_left x k.under_way (gives_of ring m spot acting) flew;
      flies_sent =
          λ x named from low high.
          name_right x k.under_way (gives_of ring m spot acting)
          (name_is_gift course m within acting spot x (mine mode agrees) named from
          (sent_here x named from low high));
      one_place = λ x named from low high.
          let e : place_at (sending_spot (mode x.round) x) ≡ place_at spot =
          ap place_at (sent_here x named from low high) in
          let q = sent_place (mode x.round) x (not_stop x.round) in
          let pm = place_m in
          omega arith;
      needs_taken = needed_here;
      taken_same = λ x. refl;
      entered = λ x named from e not_past. entered x named from e;
      receives = receives;
      ends_alone = ends_alone;
      last = last;
    }

    fits_gone : FitsBy course gone
    fits_gone = record {
      has = λ j lt. ⊎_elim
          (λ (e : j ≡ m).
          subst
          (λ i.
          HasSpot ring i (mode (standing_of gone.standings i).round) (standing_of gone.standings i).spot)
          (sym e) (subst (λ s. HasSpot ring m (mode s.round) s.spot) (sym here') a.has))
          (λ (ne : j ≢ m). subst (λ s. HasSpot ring j (mode s.round) s.spot) (sym (other' j ne)) (f.has j lt))
          (cases_eq j m);
      fits = goes_keeps ring.machines Named (names_are_planned course) v (view_of gone) f.fits m (place_of next) goes;
    }

  low_next : place_of next ≤ 256 * (blocks.limit + 1)
  low_next =
      let r = round_of 0 spot in
      let pm = place_m in
      let was = settled.rules.low m within in
      let near = acts_here.near in
      ⊎_elim
      (λ (more : 256 * r < place_at spot). omega arith)
      (λ (here : place_at spot ≤ 256 * r).
      let e : place_at spot ≡ 256 * r = omega arith in
      let within_limit =
      may_limit blocks r (ruling_in k.rulings r) (settled.rules.allowed r)
      (known_going r (at_begin (course_in state) m r spot has_0 going e)) in
      omega arith)
      (cases_lt (256 * r) (place_at spot))

  gone_ruling : (r : ℕ) → spot ≡ Judge r → ruling_in gone.rulings (r + 1) ≡ ruling
  gone_ruling r e =
      subst (λ q. ruling_in (rulings_after ruling q k.rulings) (r + 1) ≡ ruling) (sym e)
      (ruling_here k.rulings ruling (r + 1))

  pub zero_judged : (r : ℕ) → spot ≡ Judge r → zero_round gone ≡ r + 1
  zero_judged r e = ap (λ s. s.round) (zero' (judge_zero r e)) ∙ judge_round ring m acting spot r e

  judged_ruling : (r : ℕ) → spot ≡ Judge r → ruling_in gone.rulings (zero_round gone) ≡ ruling
  judged_ruling r e = ap (ruling_in gone.rulings) (zero_judged r e) ∙ gone_ruling r e

  zero_kept : m ≢ 0 → ruling_in gone.rulings (zero_round gone) ≡ ruling_in k.rulings (zero_round k)
  zero_kept ne = ap (λ s. ruling_in gone.rulings s.round) (zero_same ne) ∙ old (zero_round k) (omega arith)

  zero_going_first : m ≡ 0 → IsJudge spot → is_over (standing_of gone.standings 0).spot ≡ false →
      1 ≤ zero_round gone → ruling_in gone.rulings (zero_round gone) ≢ Stop
  zero_going_first first (judge r e) on later stop =
      judge_going ring m acting spot r e (sym (ap (λ s. is_over s.spot) (zero' first)) ∙ on)
      (acting_judge ruling (ruling_in k.rulings (round_of 0 spot)) spot r e
      ∙ sym (judged_ruling r e)
      ∙ stop)
  zero_going_first first (other none same) on later stop =
      let q : zero_round gone ≡ zero_round k =
      ap (λ s. s.round) (zero' first)
      ∙ same_round ring m acting spot first going none
      ∙ sym (zero_round_is first) in
      settled.rules.zero_going (zero_goes first) (omega arith)
      (sym (ap (ruling_in gone.rulings) q ∙ old (zero_round k) (omega arith)) ∙ stop)

  zero_over' : is_over (standing_of gone.standings 0).spot ≡ true → ruling_in gone.rulings (zero_round gone) ≡ Stop
  zero_over' over =
      ⊎_elim
      (λ (first : m ≡ 0).
      let e = ends_here (sym (ap (λ s. is_over s.spot) (zero' first)) ∙ over) in
      judged_ruling e.0 e.1 ∙ sym (acting_judge ruling (ruling_in k.rulings (round_of 0 spot)) spot e.0 e.1) ∙ e.2)
      (λ (ne : m ≢ 0). zero_kept ne ∙ settled.rules.zero_over (sym (ap (λ s. is_over s.spot) (zero_same ne)) ∙ over))
      (cases_eq m 0)

  -- a verdict that was sent is of a round that machine 0 has reached
  verdict_early : (x : Name) → IsName (course_in state) x → WasSent v x → x.kind ≡ Verdict → x.round ≤ zero_round k
  verdict_early x named was verdict =
      let is = verdict_is (course_in state) x named verdict in
      let was_0 : sent_at x < v.place 0 = subst (λ j. sent_at x < v.place j) is.from was in
      let sent = is.sent in
      let later = is.later in
      let off = zero_offset in
      omega arith

  stop_flies' : (x : Name) → has_name x gone.under_way ≡ true → x.kind ≡ Verdict →
      ruling_in gone.rulings x.round ≡ Stop →
      (is_over (standing_of gone.standings 0).spot ≡ true) ×
      (place_of (standing_of gone.standings 0) ≡ 256 * x.round)
  stop_flies' x now verdict stop =
      ⊎_elim
      (λ (flew : has_name x k.under_way ≡ true).
      let flight = fitted.fits.flies x flew in
      let s =
      settled.rules.stop_flies x flew verdict
      (sym (old x.round (verdict_early x flight.named flight.was_sent verdict)) ∙ stop) in
      let ne : m ≢ 0 = λ first. false≢true (sym (zero_goes first) ∙ s.0) in
      (ap (λ q. is_over q.spot) (zero_same ne) ∙ s.0, ap place_of (zero_same ne) ∙ s.1))
      (λ (given : Has (gives_of ring m spot acting) x).
      let g = gift_is_name (course_in state) m within acting spot x has_0 (mine (mode_in k) (agrees_in k)) given in
      let is = verdict_is (course_in state) x g.named verdict in
      let e : spot ≡ Judge (x.round - 1) = sym g.by ∙ is.by in
      let r = x.round - 1 in
      let later = is.later in
      let first = judge_zero r e in
      let back : r + 1 ≡ x.round = omega arith in
      let ruled : ruling ≡ Stop = sym (gone_ruling r e) ∙ ap (ruling_in gone.rulings) back ∙ stop in
      let over_n : is_over next.spot ≡ true =
      judge_over ring m acting spot r e
      (acting_judge ruling (ruling_in k.rulings (round_of 0 spot)) spot r e ∙ ruled) in
      let place_n : place_of next ≡ 256 * x.round =
      over_place next over_n ∙ ap (λ q. 256 * q) (judge_round ring m acting spot r e ∙ back) in
      (ap (λ q. is_over q.spot) (zero' first) ∙ over_n, ap place_of (zero' first) ∙ place_n))
      (name_append_cases x k.under_way (gives_of ring m spot acting) now)

  -- what is sent wasn't under way
  fresh : (x : Name) → Has k.under_way x → Has (gives_of ring m spot acting) x → ⊥
  fresh x there given =
      let flight = fitted.fits.flies x (name_from_has x k.under_way there) in
      let g = gift_is_name (course_in state) m within acting spot x has_0 (mine (mode_in k) (agrees_in k)) given in
      let was : sent_at x < v.place m = subst (λ j. sent_at x < v.place j) g.from flight.was_sent in
      let place = place_m in
      let by : place_at (sending_spot (mode_in k x.round) x) ≡ place_at spot = ap place_at g.by in
      let same = sent_place (mode_in k x.round) x (modes_in k x.round) in
      absurd (omega arith)

  pub rules_gone : Rules ring blocks gone
  rules_gone = record {
    all_there = set_length k.standings m next ∙ settled.rules.all_there;
    rounds = λ j lt. ⊎_elim
        (λ (e : j ≡ m).
        subst
        (λ i.
        (standing_of gone.standings i).round ≡ round_of (standing_of gone.standings i).round
        (standing_of gone.standings i).spot)
        (sym e) (subst (λ s. s.round ≡ round_of s.round s.spot) (sym here') acts_here.round))
        (λ (ne : j ≢ m). subst (λ s. s.round ≡ round_of s.round s.spot) (sym (other' j ne)) (settled.rules.rounds j lt))
        (cases_eq j m);
    low = λ j lt. ⊎_elim
        (λ (e : j ≡ m).
        subst (λ i. place_of (standing_of gone.standings i) ≤ 256 * (blocks.limit + 1)) (sym e)
        (subst (λ s. place_of s ≤ 256 * (blocks.limit + 1)) (sym here') low_next))
        (λ (ne : j ≢ m).
        subst (λ s. place_of s ≤ 256 * (blocks.limit + 1)) (sym (other' j ne)) (settled.rules.low j lt))
        (cases_eq j m);
    allowed = allowed_after blocks spot ruling k.rulings rightly settled.rules.allowed;
    zero_going = λ on later. ⊎_elim
        (λ (first : m ≡ 0). zero_going_first first (judges spot) on later)
        (λ (ne : m ≢ 0).
        let q : zero_round gone ≡ zero_round k = ap (λ s. s.round) (zero_same ne) in
        λ stop.
        settled.rules.zero_going (sym (ap (λ s. is_over s.spot) (zero_same ne)) ∙ on) (omega arith)
        (sym (zero_kept ne) ∙ stop))
        (cases_eq m 0);
    zero_over = zero_over';
    stop_flies = stop_flies';
    stop_taken = λ x taken verdict stop.
        let t = fitted.fits.taken x taken in
        let over =
        settled.rules.stop_taken x taken verdict
        (sym (old x.round (verdict_early x t.0 t.1 verdict)) ∙ stop) in
        let ne : x.to ≢ m = λ e. false≢true (sym going_m ∙ subst (λ j. v.over j ≡ true) e over) in
        ap (λ s. is_over s.spot) (other' x.to ne) ∙ over;
    once =
        once_append k.under_way (gives_of ring m spot acting) settled.rules.once
        (once_gives ring m acting spot) fresh;
    over_zero = λ j lt over. ⊎_elim
        (λ (e : j ≡ m).
        let over_m : is_over (standing_of gone.standings m).spot ≡ true =
        subst (λ i. is_over (standing_of gone.standings i).spot ≡ true) e over in
        let ends = ends_here (sym (ap (λ s. is_over s.spot) here') ∙ over_m) in
        subst (λ i. is_over (standing_of gone.standings i).spot ≡ true) (judge_zero ends.0 ends.1) over_m)
        (λ (ne : j ≢ m).
        let over_0 = settled.rules.over_zero j lt (sym (ap (λ s. is_over s.spot) (other' j ne)) ∙ over) in
        let other_m : m ≢ 0 = λ first. false≢true (sym (zero_goes first) ∙ over_0) in
        ap (λ s. is_over s.spot) (zero_same other_m) ∙ over_0)
        (cases_eq j m);
  }

  pub go_settles : Settled ring few blocks gone
  go_settles =
      record {
        rules = rules_gone;
        by = λ mode not_stop agrees. fits_gone mode not_stop (agrees_back mode agrees);
      }
