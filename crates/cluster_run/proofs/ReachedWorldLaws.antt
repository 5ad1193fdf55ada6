-- What holds of each world that possible events leave.
use Rattle.std.proofs.Common.{◌≡◌, ℕ, suc, ◌+◌, ◌*◌, ◌<◌, ◌≤◌, true, false, ◌&&◌, not, List, [], ◌∷◌, ◌++◌, length, map, Option, Some, None, refl, ap, sym, ◌∙◌, subst, arith, ⊎_elim, slice_get}
use Rattle.std.specs.Prelude.{is_some}
use Rattle.std.specs.List.{list_all}
use Rattle.std.proofs.lemmas.Bool.{false≢true, and_parts, and_from, cases_Bool}
use Rattle.std.proofs.lemmas.List.{nil_from_length}
use Rattle.std.proofs.lemmas.List.Folds.{list_all-map}
use Rattle.vert_base.specs.declared.message.Name.{Name}
use Rattle.vert_base.specs.declared.message.Event.{Event}
use Rattle.vert_base.specs.declared.message.Event.TheVariants.{Go, Take}
use Rattle.vert_base.specs.declared.value.Ruling.TheVariants.{Stop}
use Rattle.vert_base.specs.Letters.{Letter, found}
use Rattle.circulant_plan.specs.declared.spot.Ring.{Ring}
use Rattle.circulant_plan.specs.Choosing.{could_act}
use Rattle.circulant_plan.specs.Remaining.{way_left}
use Rattle.circulant_plan.specs.Remaining as bound
use Rattle.circulant_plan.specs.Skeleton.{Blocks, can_go, has_name, is_finished, is_over, is_possible, is_ready, rules_rightly, step_of}
use Rattle.circulant_plan.specs.Standing.{Standing}
use Rattle.skeleton_laws.proofs.OrderLaws.{events_come_nearer, few_are_under_way, finished_is_empty, finished_is_still, some_event_moves}
use Rattle.instrument.specs.declared.split.Split.{Split}
use Rattle.symple_face.specs.Cluster.{IsOneRun, World, after, all_placed, all_possible, can_act, events_left, finished, possible, step, ways_left}
use Rattle.symple_face.specs.Cluster as cluster
use Rattle.symple_face.specs.Lawful.{IsLawful}
use Rattle.symple_face.specs.Parts.{PlainPart}
use Rattle.symple_face.specs.Plans.{blocks_of, ring_of}
use Rattle.symple_face.specs.State.{IsTakeable, State}
use Rattle.symple_face.specs.Work.{Work}
use Rattle.cluster_run.specs.Driven.{IsReached}
use Rattle.cluster_run.specs.Sends.{CanSend}
use Rattle.cluster_run.proofs.GoWorlds as go
use Rattle.cluster_run.proofs.LetterLists.{all_placed_length}
use Rattle.cluster_run.proofs.PartsAt.{parts_few, parts_some}
use Rattle.cluster_run.proofs.ReachedWorlds.{IsTied, reached_ties}
use Rattle.cluster_run.proofs.SiteLists.{map_get_back}
use Rattle.cluster_run.proofs.TakeWorlds as take
use Rattle.cluster_run.proofs.Worlds.{goes_ready}
use Rattle.state_laws.proofs.Options.{some_of}

-- ---- lists of events with one more
after_more : (work : Work) (w : World) (es : List Event) (e : Event) →
    after work w (es ++ e ∷ []) ≡ step work (after work w es) e
after_more work w [] e = refl
after_more work w (d ∷ es) e = after_more work (step work w d) es e

more_possible : (work : Work) (w : World) (es : List Event) (e : Event) → all_possible work w es ≡ true →
    possible (after work w es) e ≡ true → all_possible work w (es ++ e ∷ []) ≡ true
more_possible work w [] e all can = and_from (possible w e) true can refl
more_possible work w (d ∷ es) e all can =
    let c = and_parts (possible w d) (all_possible work (step work w d) es) all in
    and_from (possible w d) (all_possible work (step work w d) (es ++ e ∷ [])) c.0
    (more_possible work (step work w d) es e c.1 can)

-- a possible event leaves a reached world
pub steps_on : (work : Work) (sound : State → Type 0) (w : World) (e : Event) → IsReached work sound w →
    possible w e ≡ true → IsReached work sound (step work w e)
steps_on work sound w e r can = record {
  split = r.split;
  parts = r.parts;
  one_run = r.one_run;
  can_run = r.can_run;
  first = r.first;
  is_first = r.is_first;
  events = r.events ++ e ∷ [];
  were_possible = more_possible work r.first r.events e r.were_possible (subst (λ v. possible v e ≡ true) r.here can);
  here = ap (λ v. step work v e) r.here ∙ sym (after_more work r.first r.events e);
}

pub some_site : (o : Option State) → can_act o ≡ true → (s : State) × (o ≡ Some s)
some_site None e = absurd (false≢true e)
some_site (Some s) e = (s, refl)

some_standing : (ring : Ring) (blocks : Blocks) (m : ℕ) (o : Option Standing) (taken : List Name) →
    can_go ring blocks Stop m o taken ≡ true →
    (t : Standing) × (o ≡ Some t) × (could_act ring m (Some t) taken ≡ true)
some_standing ring blocks m None taken e = absurd (false≢true e)
some_standing ring blocks m (Some t) taken e =
    let c = and_parts (not (is_over t.spot)) (is_ready ring m t taken && rules_rightly blocks Stop t.spot) e in
    let d = and_parts (is_ready ring m t taken) (rules_rightly blocks Stop t.spot) c.1 in
    (t, refl, and_from (not (is_over t.spot)) (is_ready ring m t taken) c.0 d.0)

-- ways of machines of one program are those of their standings
ways_alike : (split : Split) (ss : List State) → ((m : ℕ) (s : State) → slice_get ss m ≡ Some s → s.split ≡ split) →
    ways_left ss ≡ bound.ways_left (blocks_of split) (map (λ s. s.at) ss)
ways_alike split [] each = refl
ways_alike split (s ∷ ss) each =
    ap (λ q. way_left (blocks_of q) s.at + ways_left ss) (each 0 s refl)
    ∙ ap (λ n. way_left (blocks_of split) s.at + n) (ways_alike split ss (λ m t at. each (suc m) t at))

module _ (work : Work) (sound : State → Type 0) (lawful : IsLawful work sound) (split : Split)
    (parts : List PlainPart) (one : IsOneRun parts) (w : World) (t : IsTied sound split parts w) where
  abbrev ring : Ring
  ring = ring_of split (length parts)

  abbrev blocks : Blocks
  blocks = blocks_of split

  pub few : length parts ≤ 64
  few = parts_few parts one

  pub finished_alike : finished w ≡ is_finished t.k
  finished_alike =
      sym (list_all-map (λ (s : Standing). is_over s.spot) (λ (s : State). s.at) w.sites)
      ∙ ap (list_all (λ (s : Standing). is_over s.spot)) t.alike.standings

  left_alike : events_left w ≡ bound.events_left blocks t.k
  left_alike =
      ap (λ n. 66 * n + length w.under_way) (ways_alike split w.sites (λ m s at. (t.alike.machines m s at).split_is))
      ∙ ap (λ ss. 66 * bound.ways_left blocks ss + length w.under_way) t.alike.standings
      ∙ ap (λ n. 66 * bound.ways_left blocks t.k.standings + n) t.alike.as_many

  go_near : (m : ℕ) (s : State) → slice_get w.sites m ≡ Some s → can_act (Some s) ≡ true →
      (v : IsTied sound split parts (cluster.go_at work w m (Some s))) →
      v.k ≡ step_of ring (work.judge s) (Go m) t.k → bound.events_left blocks v.k < bound.events_left blocks t.k
  go_near m s at ready v is =
      subst (λ q. bound.events_left blocks q < bound.events_left blocks t.k) (sym is)
      (events_come_nearer ring blocks t.k (work.judge s) (Go m) t.reached
      (go.can_step work sound lawful split parts few one w t.k t.alike t.reached m s at ready))

  abbrev go_tied : (m : ℕ) (s : State) → slice_get w.sites m ≡ Some s → can_act (Some s) ≡ true →
      IsTied sound split parts (cluster.go_at work w m (Some s))
  go_tied m s at ready = record {
    k = go.next work sound lawful split parts few one w t.k t.alike t.reached m s at ready;
    reached = go.next_reached work sound lawful split parts few one w t.k t.alike t.reached m s at ready;
    alike = go.gone_tied work sound lawful split parts few one w t.k t.alike t.reached m s at ready;
  }

  -- no event is possible in a finished world
  pub still : (e : Event) → finished w ≡ true → possible w e ≡ false
  still (Go m) over =
      ⊎_elim
      (λ (can : possible w (Go m) ≡ true).
      let it = some_site (slice_get w.sites m) can in
      let goes = go.can_step work sound lawful split parts few one w t.k t.alike t.reached m it.0 it.1
      (subst (λ o. can_act o ≡ true) it.1 can) in
      absurd (false≢true (sym (finished_is_still ring blocks t.k t.reached (sym finished_alike ∙ over)
      (work.judge it.0) (Go m)) ∙ goes)))
      (λ (no : possible w (Go m) ≡ false). no)
      (cases_Bool (possible w (Go m)))
  still (Take x) over = t.alike.flies x ∙ finished_is_still ring blocks t.k t.reached (sym finished_alike ∙ over) Stop
      (Take x)

  moves_by : (e : Event) → is_possible ring blocks Stop e t.k ≡ true → possible w e ≡ true
  moves_by (Go m) can =
      let st = some_standing ring blocks m (slice_get t.k.standings m) t.k.taken can in
      let it = map_get_back (λ (s : State). s.at) w.sites m st.0
      (subst (λ ss. slice_get ss m ≡ Some st.0) (sym t.alike.standings) st.1) in
      ap can_act it.1
      ∙ goes_ready work sound lawful split parts few w t.k t.alike t.reached m it.0 it.1
      (subst (λ (q : Standing). could_act ring m (Some q) t.k.taken ≡ true) (sym it.2) st.2)
  moves_by (Take x) can = t.alike.flies x ∙ can

  -- and nothing is under way
  pub empty : finished w ≡ true → w.under_way ≡ []
  empty over =
      nil_from_length w.under_way
      (t.alike.as_many ∙ ap length (finished_is_empty ring blocks t.k t.reached (sym finished_alike ∙ over)))

  -- in an unfinished world some event is possible
  pub moves : finished w ≡ false → (e : Event) × (possible w e ≡ true)
  moves on =
      let some = some_event_moves ring blocks t.k t.reached (sym finished_alike ∙ on) in
      (some.0, moves_by some.0 (some.1 Stop refl))

module _ (work : Work) (sound : State → Type 0) (lawful : IsLawful work sound) (w : World)
    (r : IsReached work sound w) where
  tied : IsTied sound r.split r.parts w
  tied = reached_ties work sound lawful w r

  most : length r.parts ≤ 64
  most = parts_few r.parts r.one_run

  pub reached_still : (e : Event) → finished w ≡ true → possible w e ≡ false
  reached_still e over = still work sound lawful r.split r.parts r.one_run w tied e over

  pub reached_empty : finished w ≡ true → w.under_way ≡ []
  reached_empty over = empty work sound lawful r.split r.parts r.one_run w tied over

  pub reached_moves : finished w ≡ false → (e : Event) × (possible w e ≡ true)
  reached_moves on = moves work sound lawful r.split r.parts r.one_run w tied on

  pub reached_few : length w.sites ≤ 64
  reached_few = let count = tied.alike.count in let m = most in omega arith

  pub reached_some : 1 ≤ length w.sites
  reached_some = let count = tied.alike.count in let some = parts_some r.parts r.one_run in omega arith

  -- the receiver of a message under way can take it
  pub reached_takes : (x : Name) (l : Letter) → found x w.under_way ≡ Some l → (s : State) ×
      (slice_get w.sites l.name.to ≡ Some s) × IsTakeable s l
  reached_takes x l there = (
    take.s work sound lawful r.split r.parts most r.one_run w tied.k tied.alike tied.reached x l there,
    take.at_receiver work sound lawful r.split r.parts most r.one_run w tied.k tied.alike tied.reached x l there,
    take.takeable work sound lawful r.split r.parts most r.one_run w tied.k tied.alike tied.reached x l there,
  )

  -- what a ready machine sends can be put under way
  pub reached_sends : (m : ℕ) (s : State) → slice_get w.sites m ≡ Some s → can_act (Some s) ≡ true →
      CanSend (work.sent s) w.under_way
  reached_sends m s at ready =
      let v = go_tied work sound lawful r.split r.parts r.one_run w tied m s at ready in
      record {
        new = go.sent_new work sound lawful r.split r.parts most r.one_run w tied.k tied.alike tied.reached m s at
            ready;
        room =
            let rare = (few_are_under_way (ring_of r.split (length r.parts)) (blocks_of r.split) v.k v.reached).few in
            let same = v.alike.as_many in
            let placed = all_placed_length (work.sent s) w.under_way in
            omega arith;
      }

  go_nearer : (m : ℕ) (s : State) → slice_get w.sites m ≡ Some s → can_act (Some s) ≡ true →
      events_left (cluster.go_at work w m (Some s)) < events_left w
  go_nearer m s at ready =
      let v = go_tied work sound lawful r.split r.parts r.one_run w tied m s at ready in
      let near = go_near work sound lawful r.split r.parts r.one_run w tied m s at ready v
      (sym (go.step_is work sound lawful r.split r.parts most r.one_run w tied.k tied.alike tied.reached m s at
      ready)) in
      let before = left_alike work sound lawful r.split r.parts r.one_run w tied in
      let behind = left_alike work sound lawful r.split r.parts r.one_run (cluster.go_at work w m (Some s)) v in
      omega arith

  take_nearer : (x : Name) (l : Letter) → found x w.under_way ≡ Some l →
      events_left (step work w (Take x)) < events_left w
  take_nearer x l there =
      let gone : World = take.gone work sound lawful r.split r.parts most r.one_run w tied.k tied.alike tied.reached x
      l there in
      let v : IsTied sound r.split r.parts gone = record {
        k = take.next work sound lawful r.split r.parts most r.one_run w tied.k tied.alike tied.reached x l there;
        reached = take.next_reached work sound lawful r.split r.parts most r.one_run w tied.k tied.alike tied.reached
            x l there;
        alike = take.gone_tied work sound lawful r.split r.parts most r.one_run w tied.k tied.alike tied.reached x l
            there;
      } in
      let flies : has_name x tied.k.under_way ≡ true = sym (tied.alike.flies x) ∙ ap is_some there in
      let near = events_come_nearer (ring_of r.split (length r.parts)) (blocks_of r.split) tied.k Stop (Take x)
      tied.reached flies in
      let before = left_alike work sound lawful r.split r.parts r.one_run w tied in
      let behind = left_alike work sound lawful r.split r.parts r.one_run gone v in
      subst (λ v. events_left v < events_left w)
      (sym (take.gone_is work sound lawful r.split r.parts most r.one_run w tied.k tied.alike tied.reached x l
      there))
      (omega arith)

  -- each possible event lessens what is left
  pub reached_nearer : (e : Event) → possible w e ≡ true → events_left (step work w e) < events_left w
  reached_nearer (Go m) can =
      let it = some_site (slice_get w.sites m) can in
      subst (λ o. events_left (cluster.go_at work w m o) < events_left w) (sym it.1)
      (go_nearer m it.0 it.1 (subst (λ o. can_act o ≡ true) it.1 can))
  reached_nearer (Take x) can = let l = some_of (found x w.under_way) can in take_nearer x l.0 l.1
