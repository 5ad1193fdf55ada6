-- A message that machine m of a run takes can be taken by the core that is ahead of it.
use Rattle.std.proofs.Common.{◌≡◌, ◌≢◌, ℕ, zero, suc, ◌+◌, ◌*◌, ◌<◌, ◌≤◌, false, ◌&&◌, ◌||◌, List, ◌∷◌, Some, refl, ap, sym, ◌∙◌, subst, arith, ⊎_elim, slice_get}
use Rattle.std.specs.Prelude.{is_some}
use Rattle.std.specs.List.{Contains}
use Rattle.vert_base.specs.declared.message.Name.{Name}
use Rattle.vert_base.specs.declared.message.NameKind.TheVariants.{Verdict}
use Rattle.vert_base.specs.declared.value.Ruling.{Ruling}
use Rattle.vert_base.specs.declared.value.Ruling.TheVariants.{Stop}
use Rattle.vert_base.specs.Letters.{Letter, found}
use Rattle.vert_base.specs.Names.{same_name}
use Rattle.vert_base.proofs.LetterLaws.{found_name}
use Rattle.circulant_plan.specs.declared.spot.Spot.{Spot}
use Rattle.circulant_plan.specs.Deliveries.{HasSpot, IsNeededLater, needed_of_kind, needing_spot, place_at, sending_spot}
use Rattle.circulant_plan.specs.Skeleton.{Skeleton, has_name, is_over, ruling_in, standing_taken}
use Rattle.circulant_plan.specs.Standing.{Standing, place_of, round_of}
use Rattle.circulant_plan.specs.Table.{gives_of, needs_of}
use Rattle.circulant_plan.proofs.GiftLaws.{sent_is_needed}
use Rattle.circulant_plan.proofs.Members.{Has, has_from_contains}
use Rattle.circulant_plan.proofs.NameLaws.{offset_small}
use Rattle.circulant_plan.proofs.SendingLaws.{needing_not_over}
use Rattle.skeleton_laws.specs.Laws as plan
use Rattle.skeleton_laws.proofs.RoundLaws.{kind_cases}
use Rattle.skeleton_laws.proofs.Settled.{going_mode}
use Rattle.symple_face.specs.Cluster.{IsOneRun, World}
use Rattle.symple_face.specs.CoreSight.{body_of}
use Rattle.symple_face.specs.CoreWork.{core_take, core_work}
use Rattle.symple_face.specs.Ideal.{ideal_body, machines_of}
use Rattle.symple_face.specs.Parts.{PlainPart}
use Rattle.symple_face.specs.Plans.{blocks_of, ring_of}
use Rattle.symple_face.specs.Shapes.{shape_of}
use Rattle.symple_face.specs.Source.{Source, stand}
use Rattle.symple_face.specs.State.{IsTakeable, State, ruling_read}
use Rattle.work_laws.specs.Sound.{core_sound}
use Rattle.work_laws.proofs.Whole.{core_lawful}
use Rattle.cluster_run.proofs.LetterLists.{has_letter, same_swap}
use Rattle.cluster_run.proofs.SiteLists.{get_one}
use Rattle.cluster_run.proofs.TakeWorlds as take
use Rattle.cluster_run.proofs.Worlds.{is_for, it_stands}
use Rattle.round_laws.proofs.FoldScanHeld.{found_holds}
use Rattle.schedule_laws.specs.Events.{IsInTurn, IsTrue, ring_in}
use Rattle.schedule_laws.specs.OutputText.{rulings_of}
use Rattle.schedule_laws.specs.Runs.{IsSourceRun}
use Rattle.schedule_laws.proofs.Follows.{Follows, count, few, taker, taker_at}
use Rattle.schedule_laws.proofs.Takes.{takes_on}
use Rattle.worker_stream.proofs.StateWalks.{take_walks}
use Rattle.worker_laws.proofs.Ahead.{AreLed, IsBefore, all_before, course, given_on, going_goes, led_far, led_on, round_before, same_mode, still_led}
use Rattle.worker_laws.proofs.Along.{IsAlong, few_machines, for_it, grown, round_still, stands_at, stands_still}
use Rattle.worker_laws.proofs.BySource.{number}
use Rattle.state_laws.proofs.Options.{none_found}

-- the spot that needs a message
abbrev pub need_of : Source → Name → Spot
need_of src x = needing_spot (machines_of src) x

-- a message for machine m, which stands in its round, before the spot that needs it
pub record IsNew (src : Source) (m : ℕ) (taken : List Name) (from : Standing) (x : Name) : Type 0 where
  pub to : x.to ≡ m
  pub none : has_name x taken ≡ false
  pub has : HasSpot (ring_in src) m (going_mode (rulings_of src (round_of 0 (need_of src x)))) (need_of src x)
  pub needed : Has (needs_of (ring_in src) m (need_of src x)) x
  pub of_round : place_at (need_of src x) < 256 * (x.round + 1)
  pub round : from.round ≡ x.round
  pub going : is_over from.spot ≡ false
  pub high : place_of from ≤ place_at (need_of src x)
  pub sent : x.kind ≢ Verdict → 1 ≤ x.round →
      let mode : Ruling = (stand src x.round).ruling in
      HasSpot (ring_in src) x.from mode (sending_spot mode x)
      × Contains (gives_of (ring_in src) x.from (sending_spot mode x) mode) x

-- ---- of a run
module _ (src : Source) (parts : List PlainPart) (one : IsOneRun parts) (run : IsSourceRun src)
    (same_ends : src.job.graph.ends ≡ one.ends) (w : World) (k : Skeleton) (f : Follows src parts w k) (x : Name)
    (l : Letter) (there : found x w.under_way ≡ Some l) where
  can : plan.IsTakeable (ring_in src) (blocks_of src.split) k x
  can = subst (λ n. plan.IsTakeable (ring_of src.split n) (blocks_of src.split) k x)
      (count src parts one run same_ends)
      (take.can core_work core_sound core_lawful src.split parts (few src parts one run same_ends) one w k f.alike
      f.reached x l there)

  abbrev s : State
  s = taker src parts one run same_ends w k f x l there

  s_at : slice_get w.sites x.to ≡ Some s
  s_at = taker_at src parts one run same_ends w k f x l there

  named : l.name ≡ x
  named = found_name x w.under_way l there

  stands : s.at ≡ can.at
  stands = get_one (slice_get k.standings x.to) s.at can.at
      (it_stands core_work core_sound core_lawful src.split parts (few src parts one run same_ends) w k f.alike
      f.reached x.to s s_at) can.stands

  truth : IsTrue src x.to s
  truth = f.machines x.to s s_at

  round : s.at.round ≡ x.round
  round = ap (λ (t : Standing). t.round) stands ∙ can.round

  late : 1 ≤ x.round → src.base ≤ x.round
  late some =
      ⊎_elim (λ (one : src.base ≡ 1). omega arith)
      (λ (begun : src.base ≤ s.at.round). let e = round in omega arith) truth.begun

  mode_is : 1 ≤ x.round → ruling_in k.rulings x.round ≡ (stand src x.round).ruling
  mode_is some = f.rulings x.round (late some) can.judged

  pub letter_body : l.body ≡ ideal_body src l.name
  letter_body =
      ap body_of (sym there)
      ∙ found_holds (λ l. l.body ≡ ideal_body src l.name) x w.under_way f.letters (ap is_some there)
      ∙ ap (ideal_body src) (sym named)

  abbrev mode : Ruling
  mode = going_mode (rulings_of src x.round)

  later : IsNeededLater (ring_in src) x.from mode (sending_spot mode x) x
  later =
      let sends = can.sent mode (going_goes (rulings_of src x.round))
      (λ other some. mode_is some
      ∙ same_mode (rulings_of src x.round) (subst (λ (q : Ruling). q ≢ Stop) (mode_is some) (can.ruled other some).0))
      in
      sent_is_needed (ring_in src) x.from mode (sending_spot mode x) x can.from (few_machines src run)
      (going_goes (rulings_of src x.round)) sends.0 sends.1

  offset : place_at (need_of src x) < 256 * (x.round + 1)
  offset =
      let small = offset_small (course (ring_in src) (few_machines src run) (rulings_of src) x.to can.to) x.to mode
      (need_of src x) later.has in
      let same = later.round in
      omega arith

  pub letter_new : (m : ℕ) → x.to ≡ m → (t : State) → slice_get w.sites m ≡ Some t → IsNew src m k.taken t.at x
  letter_new m to t at =
      let same : s ≡ t = get_one (slice_get w.sites m) s t (subst (λ n. slice_get w.sites n ≡ Some s) to s_at) at in
      subst (λ (q : State). IsNew src m k.taken q.at x) same (record {
        to = to;
        none = can.new;
        has = subst (λ n. HasSpot (ring_in src) n (going_mode (rulings_of src (round_of 0 (need_of src x))))
            (need_of src x)) to
            (subst (λ r. HasSpot (ring_in src) x.to (going_mode (rulings_of src r)) (need_of src x)) later.round
            later.has);
        needed = subst (λ n. Has (needs_of (ring_in src) n (need_of src x)) x) to
            (has_from_contains (needs_of (ring_in src) x.to (need_of src x)) x can.needed);
        of_round = offset;
        round = round;
        going = subst (λ (q : Standing). is_over q.spot ≡ false) (sym stands) can.going;
        high = subst (λ (q : Standing). place_of q ≤ place_at (need_of src x)) (sym stands) can.not_past;
        sent = λ other some. can.sent (stand src x.round).ruling
            (subst (λ (q : Ruling). q ≢ Stop) (mode_is some) (can.ruled other some).0) (λ _ also. mode_is some);
      })

-- ---- of the core that is ahead
module _ (src : Source) (run : IsSourceRun src) (m : ℕ) (low : m < machines_of src) (taken : List Name)
    (t : State) (sound : core_sound t) (truth : IsTrue src m t) (n : ℕ) (s : State)
    (along : IsAlong src m taken t.at n s) (x : Name) (l : Letter) (named : l.name ≡ x)
    (new : IsNew src m taken t.at x) (body : l.body ≡ ideal_body src l.name) (takes : IsTakeable t l) where
  begins : IsBefore (ring_in src) (few_machines src run) (rulings_of src) m low (need_of src x) x.round t.at
  begins = record {
    is = stands_at src run m low t sound truth;
    going = new.going;
    low = let e = new.round in omega arith;
    high = new.high;
  }

  before : IsBefore (ring_in src) (few_machines src run) (rulings_of src) m low (need_of src x) x.round s.at
  before =
      subst (IsBefore (ring_in src) (few_machines src run) (rulings_of src) m low (need_of src x) x.round)
      (sym along.at)
      (all_before (ring_in src) (few_machines src run) (rulings_of src) m low taken (need_of src x) x x.round new.has
      (needing_not_over (machines_of src) x) new.needed new.none new.of_round n t.at begins along.led)

  round_here : s.at.round ≡ x.round
  round_here = round_before (ring_in src) (few_machines src run) (rulings_of src) m low (need_of src x) x.round s.at
      before new.of_round

  pub takes_too : IsTakeable s l
  takes_too = record {
    here = ap (λ (y : Name). y.to) named ∙ new.to ∙ sym (number src run m low s along.truth);
    going = before.going;
    new = none_found (found l.name s.held)
        (ap (λ y. has_letter y s.held) named ∙ along.agrees before.going x
        ∙ ap (λ b. b && is_for m s.at.round x) new.none);
    round = ap (λ (y : Name). y.round) named ∙ sym round_here;
    shape = takes.shape;
    has = ap (λ q. shape_of q s.part l.name) (along.truth.ideal.split ∙ sym truth.ideal.split)
        ∙ ap (λ q. shape_of t.split q l.name) (along.truth.ideal.part ∙ sym truth.ideal.part) ∙ takes.has;
    fits = takes.fits;
  }

  in_turn : IsInTurn src s.at l.name
  in_turn = subst (IsInTurn src s.at) (sym named) (record { not_past = before.high; sent = new.sent })

  -- a verdict is taken where it is needed, so there both stand at one spot
  none_ahead : (j : ℕ) → n ≡ suc j → x.kind ≡ Verdict → ⊥
  none_ahead j is verdict =
      let far = led_far (ring_in src) (few_machines src run) (rulings_of src) m low taken n t.at begins.is along.led in
      let place = ap place_of along.at in
      let need : place_at (need_of src x) ≡ 256 * x.round =
      ap (λ q. place_at (needed_of_kind q (machines_of src) x)) verdict ∙ (omega arith) in
      let high = before.high in
      let start = begins.low in
      omega arith

  moved_same : (j : ℕ) → n ≡ j → (core_take s l).at
      ≡ led_on (ring_in src) (rulings_of src) m j (core_take t l).at
  moved_same j is =
      ⊎_elim
      (λ (verdict : x.kind ≡ Verdict). by_verdict j is verdict)
      (λ (other : x.kind ≢ Verdict).
      let kind : l.name.kind ≢ Verdict = subst (λ (y : Name). y.kind ≢ Verdict) (sym named) other in
      core_lawful.take_at s l ∙ stands_still l.name.kind (ruling_read l.body) s.at kind
      ∙ along.at ∙ ap (λ i. led_on (ring_in src) (rulings_of src) m i t.at) is
      ∙ ap (led_on (ring_in src) (rulings_of src) m j)
      (sym (core_lawful.take_at t l ∙ stands_still l.name.kind (ruling_read l.body) t.at kind)))
      (kind_cases x.kind)
    where
      by_verdict : (j : ℕ) → n ≡ j → x.kind ≡ Verdict → (core_take s l).at
          ≡ led_on (ring_in src) (rulings_of src) m j (core_take t l).at
      by_verdict zero is verdict =
          core_lawful.take_at s l
          ∙ ap (standing_taken l.name.kind (ruling_read l.body))
          (along.at ∙ ap (λ i. led_on (ring_in src) (rulings_of src) m i t.at) is)
          ∙ sym (core_lawful.take_at t l)
      by_verdict (suc j) is verdict = absurd (none_ahead j is verdict)

  led_same : (j : ℕ) → n ≡ j → AreLed (ring_in src) (rulings_of src) m (x ∷ taken) j (core_take t l).at
  led_same j is =
      ⊎_elim
      (λ (verdict : x.kind ≡ Verdict). by_verdict j is verdict)
      (λ (other : x.kind ≢ Verdict).
      let kind : l.name.kind ≢ Verdict = subst (λ (y : Name). y.kind ≢ Verdict) (sym named) other in
      subst (AreLed (ring_in src) (rulings_of src) m (x ∷ taken) j)
      (sym (core_lawful.take_at t l ∙ stands_still l.name.kind (ruling_read l.body) t.at kind))
      (still_led (ring_in src) (rulings_of src) m taken (x ∷ taken) (grown taken x) j t.at
      (subst (λ i. AreLed (ring_in src) (rulings_of src) m taken i t.at) is along.led)))
      (kind_cases x.kind)
    where
      by_verdict : (j : ℕ) → n ≡ j → x.kind ≡ Verdict →
          AreLed (ring_in src) (rulings_of src) m (x ∷ taken) j (core_take t l).at
      by_verdict zero is verdict = tt
      by_verdict (suc j) is verdict = absurd (none_ahead j is verdict)

  pub given_same : (j : ℕ) → n ≡ j → given_on (ring_in src) (rulings_of src) m j (core_take t l).at
      ≡ given_on (ring_in src) (rulings_of src) m j t.at
  given_same j is =
      ⊎_elim
      (λ (verdict : x.kind ≡ Verdict). by_verdict j is verdict)
      (λ (other : x.kind ≢ Verdict).
      let kind : l.name.kind ≢ Verdict = subst (λ (y : Name). y.kind ≢ Verdict) (sym named) other in
      ap (given_on (ring_in src) (rulings_of src) m j)
      (core_lawful.take_at t l ∙ stands_still l.name.kind (ruling_read l.body) t.at kind))
      (kind_cases x.kind)
    where
      by_verdict : (j : ℕ) → n ≡ j → x.kind ≡ Verdict →
          given_on (ring_in src) (rulings_of src) m j (core_take t l).at
          ≡ given_on (ring_in src) (rulings_of src) m j t.at
      by_verdict zero is verdict = refl
      by_verdict (suc j) is verdict = absurd (none_ahead j is verdict)

  round_stays : (core_take s l).at.round ≡ s.at.round
  round_stays = ap (λ (q : Standing). q.round) (core_lawful.take_at s l)
      ∙ round_still l.name.kind (ruling_read l.body) s.at

  pub takes_along : IsAlong src m (x ∷ taken) (core_take t l).at n (core_take s l)
  takes_along = record {
    truth = takes_on src m s l run low along.sound along.truth takes_too in_turn body;
    sound = core_lawful.take_sound s l along.sound takes_too;
    walks = (take_walks core_work core_sound core_lawful s l along.walks takes_too).walks;
    agrees = λ on y.
        core_lawful.take_held s l y
        ∙ ap (λ b. b || has_letter y s.held) (ap (λ z. same_name z y) named ∙ same_swap x y)
        ∙ ap (λ b. same_name y x || b) (along.agrees before.going y)
        ∙ for_it m s.at.round x y (same_name y x) (has_name y taken) refl new.to (sym round_here)
        ∙ ap (λ r. (same_name y x || has_name y taken) && is_for m r y) (sym round_stays);
    led = led_same n refl;
    at = moved_same n refl;
  }
