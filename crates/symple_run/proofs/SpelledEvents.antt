-- Each event of a run can be told in a text, whatever machines play it: its names are of the plan, with fewer than 65
-- machines, and of a round that is at most one above the limit.
use Rattle.std.proofs.Common.{◌≡◌, ◌≢◌, ◌<◌, ◌≤◌, ◌||◌, ◌&&◌, not, ℕ, zero, suc, Bool, true, false, List, [], ◌∷◌, length, map, Option, Some, None, refl, ap, sym, ◌∙◌, subst, inl, inr, arith, ⊎_elim, slice_get}
use Rattle.std.specs.Prelude.{◌==◌, nat_le, nat_lt}
use Rattle.std.specs.List.{AllByRecursion, Contains}
use Rattle.std.proofs.lemmas.Bool.{and_parts, cases_Bool, false≢true, leb-true}
use Rattle.std.proofs.lemmas.Bool.Decides.{nat_tests}
use Rattle.std.proofs.lemmas.Option.{slice_get_within}
use Rattle.vert_base.specs.declared.message.Event.{Event}
use Rattle.vert_base.specs.declared.message.Event.TheVariants as plain
use Rattle.vert_base.specs.declared.message.Name.{Name}
use Rattle.vert_base.specs.declared.message.NameKind.{NameKind}
use Rattle.vert_base.specs.declared.message.NameKind.TheVariants.{Refresh, Dep, Update, Push, Tally, Verdict}
use Rattle.vert_base.specs.declared.value.Ruling.{Ruling}
use Rattle.vert_base.specs.declared.value.Ruling.TheVariants.{Dense, Sparse, Stop}
use Rattle.vert_base.specs.HeaderBytes.{has_steps}
use Rattle.vert_base.specs.NameTexts.{IsName}
use Rattle.circulant_plan.specs.declared.spot.Ring.{Ring}
use Rattle.circulant_plan.specs.Deliveries.{HasSpot, sending_spot, sent_of_kind}
use Rattle.circulant_plan.specs.Names.{verdict_name}
use Rattle.circulant_plan.specs.Runs.{IsFirst, IsReached, again, anew}
use Rattle.circulant_plan.specs.Skeleton.{Blocks, Skeleton, all_possible, go_at, has_name, is_possible, may_rule, ruling_in, skeleton_after, step_of}
use Rattle.circulant_plan.specs.Standing.{Standing}
use Rattle.circulant_plan.specs.Table.{gives_of, others_of}
use Rattle.circulant_plan.proofs.Members.{Has, has_from_contains, has_map_cases, has_others_cases}
use Rattle.circulant_plan.proofs.NameLists.{has_from_name}
use Rattle.skeleton_laws.specs.Laws.{IsTakeable}
use Rattle.skeleton_laws.proofs.OrderLaws.{each_is_takeable, steps_reach}
use Rattle.symple_face.specs.Cluster.{World, can_act, finished, possible, step}
use Rattle.symple_face.specs.Cluster as cluster
use Rattle.symple_face.specs.Lawful.{CanRun, IsLawful}
use Rattle.symple_face.specs.Plans.{blocks_of, ring_of}
use Rattle.symple_face.specs.State.{State}
use Rattle.symple_face.specs.Work.{Work}
use Rattle.cluster_run.specs.Driven as driven
use Rattle.cluster_run.specs.Laws.{StepsReach}
use Rattle.cluster_run.proofs.FirstWorlds.{all_at}
use Rattle.cluster_run.proofs.PartsAt.{parts_few, parts_some}
use Rattle.cluster_run.proofs.ReachedWorlds.{reached_ties}
use Rattle.delivery_log.specs.ScheduleTexts.{IsEvent}
use Rattle.link_core.specs.declared.event.LinkEvent.{LinkEvent}
use Rattle.link_core.specs.declared.event.LinkEvent.TheVariants.{Go, Take, Lose, Again, Ack, Drop}
use Rattle.link_core.specs.LinkRuns.{IsLinkReached}
use Rattle.link_core.specs.LinkTexts.{IsLinkEvent}
use Rattle.link_core.specs.Links.{Linked, can_happen, link_possible, link_step, links_possible}
use Rattle.link_core.specs.Piles.{count_of}
use Rattle.link_core.proofs.GiftNames.{gift_proper}
use Rattle.link_core.proofs.LinkHolds.{HoldsAt, IsUnknown}
use Rattle.link_core.proofs.LinkReached.{in_order, link_steps_on}
use Rattle.vert_tree.proofs.TypedLaws.{few_rounds}

-- ---- by the order of events
zero_small : (n : ℕ) → (n == 0) ≡ true → n < 256
zero_small n e = grind (arith, nat_tests)

other_kind : (a b : NameKind) → a ≡ b → b ≢ Verdict → a ≢ Verdict
other_kind a b is other = λ e. other (sym is ∙ e)

module _ (ring : Ring) (blocks : Blocks) (few : ring.machines ≤ 64) (short : blocks.limit ≤ 10000) where
  no_steps : (x : Name) → (x.step == 0 && x.half == 0) ≡ true → (x.step < 256) × (x.half < 256)
  no_steps x e =
      let both = and_parts (x.step == 0) (x.half == 0) e in (zero_small x.step both.0, zero_small x.half both.1)

  -- a step is one of the ring's, and a half one of two
  small_steps : (kind : NameKind) (mode : Ruling) (x : Name) → HasSpot ring x.from mode (sent_of_kind kind mode x) →
      (has_steps kind || (x.step == 0 && x.half == 0)) ≡ true → (x.step < 256) × (x.half < 256)
  small_steps Refresh mode x has proper = no_steps x proper
  small_steps Dep mode x has proper =
      let step = has.1 in let half = has.2 in (omega (arith, few, step), omega (arith, half))
  small_steps Update mode x has proper =
      let step = has.1 in let half = has.2 in (omega (arith, few, step), omega (arith, half))
  small_steps Push mode x has proper = no_steps x proper
  small_steps Tally mode x has proper = no_steps x proper
  small_steps Verdict mode x has proper = no_steps x proper

  -- the sender sends it by some mode
  abbrev IsSent : Name → Type 0
  IsSent x = (mode : Ruling) × HasSpot ring x.from mode (sending_spot mode x)
      × Contains (gives_of ring x.from (sending_spot mode x) mode) x

  sent_in : (k : Skeleton) (x : Name) → IsTakeable ring blocks k x → x.kind ≢ Verdict → (r : ℕ) → x.round ≡ r →
      IsSent x
  sent_in k x can other zero is =
      let sent = can.sent Dense (λ e. cc) (λ not low. absurd (omega (arith, low, is))) in (Dense, sent.0, sent.1)
  sent_in k x can other (suc r) is =
      let mode = ruling_in k.rulings x.round in
      let sent = can.sent mode (can.ruled other (omega (arith, is))).0 (λ not low. refl) in (mode, sent.0, sent.1)

  sent_of : (k : Skeleton) (x : Name) → IsTakeable ring blocks k x → (kind : NameKind) → x.kind ≡ kind → IsSent x
  sent_of k x can Refresh is = sent_in k x can (other_kind x.kind Refresh is (λ e. cc)) x.round refl
  sent_of k x can Dep is = sent_in k x can (other_kind x.kind Dep is (λ e. cc)) x.round refl
  sent_of k x can Update is = sent_in k x can (other_kind x.kind Update is (λ e. cc)) x.round refl
  sent_of k x can Push is = sent_in k x can (other_kind x.kind Push is (λ e. cc)) x.round refl
  sent_of k x can Tally is = sent_in k x can (other_kind x.kind Tally is (λ e. cc)) x.round refl
  sent_of k x can Verdict is =
      let sent = can.sent Dense (λ e. cc) (λ other low. absurd (other is)) in (Dense, sent.0, sent.1)

  takeable_name : (k : Skeleton) (x : Name) → IsTakeable ring blocks k x → IsName x
  takeable_name k x can =
      let sent = sent_of k x can x.kind refl in
      let proper = gift_proper ring x.from (sending_spot sent.0 x) sent.0 x
      (has_from_contains (gives_of ring x.from (sending_spot sent.0 x) sent.0) x sent.2) in
      let small = small_steps x.kind sent.0 x sent.1 proper in
      let round = can.within_one in
      let from = can.from in
      let to = can.to in
      record {
        proper = proper;
        round = omega (arith, round, short);
        step = small.0;
        half = small.1;
        from = omega (arith, from, few);
        to = omega (arith, to, few);
      }

  -- ---- and what was taken
  abbrev AreNames : List Name → Type 0
  AreNames xs = (x : Name) → Has xs x → IsName x

  within : (ruling : Ruling) (q : ℕ) → may_rule blocks q ruling ≡ true → ruling ≢ Stop → q ≤ blocks.limit
  within Stop q may mode = absurd (mode refl)
  within Dense q may mode = leb-true q blocks.limit (and_parts blocks.dense (nat_le q blocks.limit) may).1
  within Sparse q may mode = leb-true q blocks.limit (and_parts blocks.sparse (nat_le q blocks.limit) may).1

  verdicts_are : (q : ℕ) → 1 ≤ ring.machines → q ≤ blocks.limit →
      AreNames (map (verdict_name q) (others_of ring.machines 0))
  verdicts_are q some low x h =
      let m = has_map_cases (verdict_name q) (others_of ring.machines 0) x h in
      let below = (has_others_cases ring.machines 0 m.0 (omega (arith, some)) m.1).0 in
      subst IsName m.2 (record {
        proper = refl;
        round = omega (arith, low, short);
        step = omega arith;
        half = omega arith;
        from = omega arith;
        to = omega (arith, below, few);
      })

  first_are : (k : Skeleton) → 1 ≤ ring.machines → IsFirst ring blocks k → AreNames k.taken
  first_are k some (anew is) = subst (λ (j : Skeleton). AreNames j.taken) (sym is) (λ x h. absurd h)
  first_are k some (again q ruling late may mode is) =
      subst (λ (j : Skeleton). AreNames j.taken) (sym is) (verdicts_are q some (within ruling q may mode))

  go_are : (ruling : Ruling) (m : ℕ) (o : Option Standing) (k : Skeleton) → AreNames k.taken →
      AreNames (go_at ring ruling m o k).taken
  go_are ruling m None k are = are
  go_are ruling m (Some s) k are = are

  one_more : (x : Name) (xs : List Name) → IsName x → AreNames xs → AreNames (x ∷ xs)
  one_more x xs is are y (inl same) = subst IsName same is
  one_more x xs is are y (inr h) = are y h

  step_are : (ruling : Ruling) (e : Event) (k : Skeleton) → IsReached ring blocks k →
      is_possible ring blocks ruling e k ≡ true → AreNames k.taken → AreNames (step_of ring ruling e k).taken
  step_are ruling (plain.Go m) k r can are = go_are ruling m (slice_get k.standings m) k are
  step_are ruling (plain.Take x) k r can are =
      one_more x k.taken (takeable_name k x (each_is_takeable ring blocks k x r can)) are

  after_are : (es : List (Event × Ruling)) (k : Skeleton) → IsReached ring blocks k →
      all_possible ring blocks es k ≡ true → AreNames k.taken → AreNames (skeleton_after ring es k).taken
  after_are [] k r can are = are
  after_are (e ∷ es) k r can are =
      let both = and_parts (is_possible ring blocks e.1 e.0 k) (all_possible ring blocks es (step_of ring e.1 e.0 k))
      can in
      after_are es (step_of ring e.1 e.0 k) (steps_reach ring blocks k e.1 e.0 r both.0) both.1
      (step_are e.1 e.0 k r both.0 are)

  taken_are : (k : Skeleton) → IsReached ring blocks k → AreNames k.taken
  taken_are k r = subst (λ (j : Skeleton). AreNames j.taken) (sym r.here)
      (after_are r.events r.first (record {
        some = r.some;
        few = r.few;
        first = r.first;
        is_first = r.is_first;
        events = [];
        were_possible = refl;
        here = refl;
      }) r.were_possible (first_are r.first r.some r.is_first))

-- ---- by the machines of a run
first_of : {X : Type 0} (xs : List X) → 1 ≤ length xs → (x : X) × (slice_get xs 0 ≡ Some x)
first_of [] some = absurd (omega arith)
first_of (x ∷ xs) some = (x, refl)

module _ (work : Work) (sound : State → Type 0) (lawful : IsLawful work sound) where
  few_parts : (w : World) (r : driven.IsReached work sound w) → length r.parts ≤ 64
  few_parts w r = parts_few r.parts r.one_run

  limit_low : (w : World) (r : driven.IsReached work sound w) → (blocks_of r.split).limit ≤ 10000
  limit_low w r =
      let part = first_of r.parts (parts_some r.parts r.one_run) in
      let can = all_at (λ part. CanRun part r.split) r.parts 0 part.0 r.can_run part.1 in
      few_rounds r.split.program.program can.program.typed

  acts_there : (xs : List State) (m : ℕ) (o : Option State) → slice_get xs m ≡ o → can_act o ≡ true → m < length xs
  acts_there xs m None at can = absurd (false≢true can)
  acts_there xs m (Some s) at can = slice_get_within xs m s at

  pub event_told : (w : World) (e : Event) → driven.IsReached work sound w → possible w e ≡ true → IsEvent e
  event_told w (plain.Go m) r can =
      let tied = reached_ties work sound lawful w r in
      let there = acts_there w.sites m (slice_get w.sites m) refl can in
      let count = tied.alike.count in
      let few = few_parts w r in
      omega (arith, there, count, few)
  event_told w (plain.Take x) r can =
      let tied = reached_ties work sound lawful w r in
      let ring = ring_of r.split (length r.parts) in
      let blocks = blocks_of r.split in
      takeable_name ring blocks (few_parts w r) (limit_low w r) tied.k x
      (each_is_takeable ring blocks tied.k x tied.reached (sym (tied.alike.flies x) ∙ can))

  pub events_told : StepsReach work sound → (w : World) (es : List Event) → driven.IsReached work sound w →
      cluster.all_possible work w es ≡ true → AllByRecursion IsEvent es
  events_told reach w [] r can = tt
  events_told reach w (e ∷ es) r can =
      let both = and_parts (possible w e) (cluster.all_possible work (step work w e) es) can in
      (event_told w e r both.0, events_told reach (step work w e) es (reach w e r both.0) both.1)

  -- ---- and over links
  no_count : (n : ℕ) → nat_le 1 n ≡ true → n ≡ 0 → ⊥
  no_count n e none = false≢true (sym (ap (nat_le 1) none) ∙ e)

  module _ (l : Linked) (r : IsLinkReached work sound l) where
    at : HoldsAt work sound lawful r.reached.split r.reached.parts r.reached.one_run l.world l.traffic
    at = in_order work sound lawful l r

    abbrev ring : Ring
    ring = ring_of r.reached.split (length r.reached.parts)

    abbrev blocks : Blocks
    blocks = blocks_of r.reached.split

    few : length r.reached.parts ≤ 64
    few = few_parts r.first r.reached

    short : blocks.limit ≤ 10000
    short = limit_low r.first r.reached

    -- what is on the wire or kept was sent, so it is under way or was taken
    name_told : (x : Name) → (IsUnknown l.traffic x → ⊥) → IsName x
    name_told x there =
        ⊎_elim
        (λ (flies : has_name x at.tied.k.under_way ≡ true). takeable_name ring blocks few short at.tied.k x
        (each_is_takeable ring blocks at.tied.k x at.tied.reached flies))
        (λ (grounded : has_name x at.tied.k.under_way ≡ false).
        ⊎_elim
        (λ (was : has_name x at.tied.k.taken ≡ true). taken_are ring blocks few short at.tied.k at.tied.reached x
        (has_from_name x at.tied.k.taken was))
        (λ (new : has_name x at.tied.k.taken ≡ false). absurd (there (at.holds.fresh x (grounded, new))))
        (cases_Bool (has_name x at.tied.k.taken)))
        (cases_Bool (has_name x at.tied.k.under_way))

    can_told : (e : LinkEvent) → can_happen l e ≡ true → IsLinkEvent e
    can_told (Go m) can =
        let there = acts_there l.world.sites m (slice_get l.world.sites m) refl can in
        let count = at.tied.alike.count in
        omega (arith, there, count, few)
    can_told (Take x) can = name_told x (λ none. no_count (count_of x l.traffic.copies) can none.copies)
    can_told (Lose x) can = name_told x (λ none. no_count (count_of x l.traffic.copies) can none.copies)
    can_told (Again x) can =
        let room = nat_lt (count_of x l.traffic.copies) 255 in
        let kept = (and_parts (nat_le 1 (count_of x l.traffic.kept)) room can).0 in
        name_told x (λ none. no_count (count_of x l.traffic.kept) kept none.kept)
    can_told (Ack x) can = name_told x (λ none. no_count (count_of x l.traffic.acks) can none.acks)
    can_told (Drop x) can = name_told x (λ none. no_count (count_of x l.traffic.acks) can none.acks)

  pub links_told : (l : Linked) (es : List LinkEvent) → IsLinkReached work sound l → links_possible work l es ≡ true →
      AllByRecursion IsLinkEvent es
  links_told l [] r can = tt
  links_told l (e ∷ es) r can =
      let both = and_parts (link_possible l e) (links_possible work (link_step work l e) es) can in (
        can_told l r e (and_parts (not (finished l.world)) (can_happen l e) both.0).1,
        links_told (link_step work l e) es (link_steps_on work sound l e r both.0) both.1,
      )
