-- The action of a machine: the world and the skeleton stand alike after it.
use Rattle.std.proofs.Common.{◌≡◌, ◌≢◌, ℕ, ◌+◌, ◌<◌, ◌≤◌, Bool, true, false, cond, ◌&&◌, ◌||◌, not, List, [], ◌∷◌, ◌++◌, length, length-append, map, Some, refl, ap, sym, ◌∙◌, subst, inl, inr, arith, ⊎_elim, slice_get}
use Rattle.std.specs.Prelude.{is_some, ◌==◌, slice_set}
use Rattle.std.specs.List.{AllByRecursion}
use Rattle.std.proofs.lemmas.Bool.{false≢true, and_parts, cases_eq, and_from, cases_Bool}
use Rattle.std.proofs.lemmas.List.{length-map}
use Rattle.std.proofs.lemmas.Bool.Decides.{nat_tests}
use Rattle.vert_base.specs.declared.message.Name.{Name}
use Rattle.vert_base.specs.declared.message.NameKind.TheVariants.{Verdict}
use Rattle.vert_base.specs.declared.message.Event.TheVariants.{Go}
use Rattle.vert_base.specs.declared.value.Ruling.{Ruling}
use Rattle.vert_base.specs.declared.value.Ruling.TheVariants.{Stop, Dense, Sparse}
use Rattle.vert_base.specs.Letters.{Letter, found}
use Rattle.vert_base.proofs.LetterLaws.{found_name}
use Rattle.circulant_plan.specs.declared.spot.Ring.{Ring}
use Rattle.circulant_plan.specs.declared.spot.Spot.TheVariants.{Judge, Begin}
use Rattle.circulant_plan.specs.Deliveries.{HasSpot}
use Rattle.circulant_plan.specs.Names.{verdict_name}
use Rattle.circulant_plan.specs.Runs.{IsReached, judged_round}
use Rattle.circulant_plan.specs.Skeleton.{Skeleton, Blocks, acting_ruling, can_go, has_name, is_over, is_ready, is_possible, may_rule, rules_rightly, ruling_in, rulings_after, step_of}
use Rattle.circulant_plan.specs.Skeleton as plan
use Rattle.circulant_plan.specs.Standing.{Standing, round_of, round_ruled, next_standing, standing_at}
use Rattle.circulant_plan.specs.Table.{needs_of, gives_of, next_spot}
use Rattle.circulant_plan.proofs.Members.{Has, has_right}
use Rattle.circulant_plan.proofs.NameLists.{Once, has_from_name}
use Rattle.circulant_plan.proofs.StandingLaws.{not_zero}
use Rattle.skeleton_laws.specs.Laws.{IsStandingOf}
use Rattle.skeleton_laws.proofs.GoFacts.{ruling_here}
use Rattle.skeleton_laws.proofs.OrderLaws.{each_is_takeable, each_was_taken, few_are_under_way, steps_reach, the_rulings_stay}
use Rattle.instrument.specs.declared.split.Split.{Split}
use Rattle.body_shape.specs.Verdict.{ruling_byte, ruling_with}
use Rattle.symple_face.specs.declared.action.Action.{Action}
use Rattle.symple_face.specs.declared.action.Action.TheVariants as action
use Rattle.symple_face.specs.Cluster.{IsOneRun, World, all_placed, can_act}
use Rattle.symple_face.specs.Cluster as cluster
use Rattle.symple_face.specs.Lawful.{HasForm, IsLawful, Rules, acting, is_begin}
use Rattle.symple_face.specs.Parts.{PlainPart}
use Rattle.symple_face.specs.Plans.{blocks_of, ring_of}
use Rattle.symple_face.specs.Shapes.{shape_of}
use Rattle.symple_face.specs.State.{State, action_of, p_of, ruling_read}
use Rattle.symple_face.specs.Work.{Work}
use Rattle.cluster_run.specs.Sends.{AreNew}
use Rattle.cluster_run.proofs.LetterLists.{all_placed_ascends, all_placed_is, all_placed_length, are_new, has_all_placed, has_letter, names_of, once_from_each}
use Rattle.cluster_run.proofs.NextStandings.{begins, ends, onward, stays}
use Rattle.cluster_run.proofs.PartsAt.{fits_along}
use Rattle.cluster_run.proofs.SiteLists.{same, other, map_set, set_cases, set_length}
use Rattle.cluster_run.proofs.ActionTables.{ActsAlike, acts_alike, gift_from, rules_by, stays_by, zero_begins}
use Rattle.cluster_run.proofs.Worlds.{IsMachine, IsSkeletonOf, Knows, is_for, it_is, it_keeps, it_stands, knows_judged, ready_goes, ready_going, ready_holds}
use Rattle.state_laws.proofs.Letters.{name_append}
use Rattle.state_laws.proofs.Rulings.{judged_on}
use Rattle.state_laws.specs.Letters.{FitsForm}

is_ready_action : (a : Action) → cluster.is_ready a ≡ true → a ≡ action.Ready
is_ready_action action.Ready e = refl
is_ready_action (action.Waits x) e = absurd (false≢true e)
is_ready_action action.Over e = absurd (false≢true e)

pub ready_is : (s : State) → can_act (Some s) ≡ true → action_of s ≡ action.Ready
ready_is s ready = is_ready_action (action_of s) ready

or_swap : (a b : Bool) → (a || b) ≡ (b || a)
or_swap true true = refl
or_swap true false = refl
or_swap false true = refl
or_swap false false = refl

all_has : (P : Letter → Type 0) (ls : List Letter) (l : Letter) → AllByRecursion P ls → Has ls l → P l
all_has P [] l all h = absurd h
all_has P (y ∷ ls) l all (inl e) = subst P e all.0
all_has P (y ∷ ls) l all (inr h) = all_has P ls l all.1 h

has_its_name : (ls : List Letter) (l : Letter) → Has ls l → Has (names_of ls) l.name
has_its_name [] l h = absurd h
has_its_name (y ∷ ls) l (inl e) = inl (ap (λ (q : Letter). q.name) e)
has_its_name (y ∷ ls) l (inr h) = inr (has_its_name ls l h)

once_later : (xs ys : List Name) → Once (xs ++ ys) → Once ys
once_later [] ys once = once
once_later (x ∷ xs) ys once = once_later xs ys once.1

once_twice : (xs ys : List Name) → Once (xs ++ ys) → (x : Name) → Has xs x → Has ys x → ⊥
once_twice [] ys once x early late = early
once_twice (z ∷ xs) ys once x (inl e) late = once.0 (has_right xs ys z (subst (λ q. Has ys q) (sym e) late))
once_twice (z ∷ xs) ys once x (inr early) late = once_twice xs ys once.1 x early late

once_apart : (xs ys : List Name) → Once (xs ++ ys) → (x : Name) → Has ys x → has_name x xs ≡ false
once_apart xs ys once x late =
    ⊎_elim
    (λ (e : has_name x xs ≡ true). absurd (once_twice xs ys once x (has_from_name x xs e) late))
    (λ (e : has_name x xs ≡ false). e)
    (cases_Bool (has_name x xs))

pub same_from : (a b : ℕ) → (a == b) ≡ true → a ≡ b
same_from a b e = grind (arith, nat_tests)

judge_round : (ring : Ring) (m : ℕ) (a : Ruling) (s : Standing) (r : ℕ) → s.spot ≡ Judge r →
    (next_standing ring m a s).round ≡ r + 1
judge_round ring m a s r at = ap (λ spot. round_of (round_ruled s.round spot) (next_spot ring m spot a)) at
    ∙ judged_on r a

pub ruling_back : (a : Ruling) → ruling_with (ruling_byte a) ≡ a
ruling_back Stop = refl
ruling_back Dense = refl
ruling_back Sparse = refl

ruled_letter : (judged : Ruling) (l : Letter) → Rules judged l → ruling_read l.body ≡ judged
ruled_letter judged l rules = ap ruling_read rules.1 ∙ ruling_back judged

module _ (work : Work) (sound : State → Type 0) (lawful : IsLawful work sound) (split : Split)
    (parts : List PlainPart) (few : length parts ≤ 64) (one : IsOneRun parts) (w : World) (k : Skeleton)
    (tied : IsSkeletonOf sound split parts w k)
    (reached : IsReached (ring_of split (length parts)) (blocks_of split) k) (m : ℕ) (s : State)
    (here : slice_get w.sites m ≡ Some s) (ready : can_act (Some s) ≡ true) where
  abbrev pub ring : Ring
  ring = ring_of split (length parts)

  abbrev pub blocks : Blocks
  blocks = blocks_of split

  abbrev pub judged : Ruling
  judged = work.judge s

  abbrev pub known : Ruling
  known = ruling_in k.rulings s.at.round

  abbrev pub by : Ruling
  by = acting_ruling judged known s.at.spot

  is : IsMachine sound split parts m s
  is = it_is work sound lawful split parts few w k tied reached m s here

  keeps : IsStandingOf ring blocks k m s.at
  keeps = it_keeps work sound lawful split parts few w k tied reached m s here

  stands : slice_get k.standings m ≡ Some s.at
  stands = it_stands work sound lawful split parts few w k tied reached m s here

  going : is_over s.at.spot ≡ false
  going = ready_going work sound lawful split parts few w k tied reached m s here ready

  knows_at : (r : ℕ) → s.at.spot ≡ Begin r → Knows m s
  knows_at r at =
      let round : s.at.round ≡ r = keeps.round ∙ ap (round_of s.at.round) at in
      let late : 1 ≤ r = subst (HasSpot ring m known) at keeps.has in
      ⊎_elim
      (λ (first : m ≡ 0). inl (first, omega arith))
      (λ (later : m ≢ 0).
      let there : Has (needs_of ring m (Begin r)) (verdict_name r m) =
      subst (λ b. Has (cond b [] (verdict_name r m ∷ [])) (verdict_name r m)) (sym (not_zero m later)) (inl refl) in
      let needed : Has (needs_of ring m s.at.spot) (verdict_name r m) =
      subst (λ spot. Has (needs_of ring m spot) (verdict_name r m)) (sym at) there in
      let held : has_letter (verdict_name r m) s.held ≡ true =
      ready_holds work sound lawful split parts few w k tied reached m s here ready (verdict_name r m) needed in
      inr (subst (λ q. has_letter (verdict_name q m) s.held ≡ true) (sym round) held))
      (cases_eq m 0)

  alike : ActsAlike ring m s.at.spot (acting work s) by
  alike = acts_alike ring m judged s.ruling known s.at.spot (λ r at. tied.rulings m s here going (knows_at r at))

  next_is : (work.go s).at ≡ next_standing ring m by s.at
  next_is =
      lawful.go_at s
      ∙ ap (λ n. next_standing (ring_of s.split (p_of s)) n (acting work s) s.at) is.number
      ∙ ap (λ n. next_standing (ring_of s.split n) m (acting work s) s.at) is.count
      ∙ ap (λ q. next_standing (ring_of q (length parts)) m (acting work s) s.at) is.split_is
      ∙ ap (standing_at (round_ruled s.at.round s.at.spot)) alike.next

  sent_are : names_of (work.sent s) ≡ gives_of ring m s.at.spot by
  sent_are =
      lawful.sent_names s
      ∙ ap (λ n. gives_of (ring_of s.split (p_of s)) n s.at.spot (acting work s)) is.number
      ∙ ap (λ n. gives_of (ring_of s.split n) m s.at.spot (acting work s)) is.count
      ∙ ap (λ q. gives_of (ring_of q (length parts)) m s.at.spot (acting work s)) is.split_is
      ∙ alike.gives

  pub can_step : is_possible ring blocks judged (Go m) k ≡ true
  can_step =
      let could = and_parts (not (is_over s.at.spot)) (is_ready ring m s.at k.taken)
      (ready_goes work sound lawful split parts few w k tied reached m s here ready) in
      let rules : rules_rightly blocks judged s.at.spot ≡ true =
      rules_by blocks judged s.at.spot (λ r at.
      subst (λ q. may_rule (blocks_of q) (r + 1) judged ≡ true) is.split_is (lawful.judge_may s r at)) in
      subst (λ o. can_go ring blocks judged m o k.taken ≡ true) (sym stands)
      (and_from (not (is_over s.at.spot)) (is_ready ring m s.at k.taken && rules_rightly blocks judged s.at.spot)
      could.0
      (and_from (is_ready ring m s.at k.taken) (rules_rightly blocks judged s.at.spot) could.1 rules))

  abbrev pub next : Skeleton
  next = plan.go_at ring judged m (Some s.at) k

  abbrev pub gone : World
  gone = cluster.go_at work w m (Some s)

  pub step_is : step_of ring judged (Go m) k ≡ next
  step_is = ap (λ o. plan.go_at ring judged m o k) stands

  pub next_reached : IsReached ring blocks next
  next_reached = subst (IsReached ring blocks) step_is (steps_reach ring blocks k judged (Go m) reached can_step)

  -- what was ruled up to now stays so
  ruled : (r : ℕ) → r < judged_round k → ruling_in next.rulings r ≡ ruling_in k.rulings r
  ruled r early =
      subst (λ q. ruling_in q.rulings r ≡ ruling_in k.rulings r) step_is
      ((the_rulings_stay ring blocks k judged (Go m) reached can_step).1 r early)

  next_machine : IsMachine sound split parts m (work.go s)
  next_machine = record {
    part = is.part ∙ ap (λ part. Some part) (sym (lawful.go_part s));
    split_is = lawful.go_split s ∙ is.split_is;
    number = ap (λ (part : PlainPart). part.at.machine) (lawful.go_part s) ∙ is.number;
    count = ap (λ (part : PlainPart). part.at.machines) (lawful.go_part s) ∙ is.count;
    is_sound = lawful.go_sound s is.is_sound (ready_is s ready);
  }

  -- ---- what the machine holds behind its action
  drops : (x : Name) → is_begin (work.go s).at.spot ≡ true → has_letter x (work.go s).held ≡ false
  drops x at = lawful.go_held s x ∙ ap (λ b. not b && has_letter x s.held) at

  holds_on : (x : Name) → is_begin (work.go s).at.spot ≡ false → has_letter x (work.go s).held ≡ has_letter x s.held
  holds_on x at = lawful.go_held s x ∙ ap (λ b. not b && has_letter x s.held) at

  at_next : (P : Standing → Type 0) → P (next_standing ring m by s.at) → P (work.go s).at
  at_next P p = subst P (sym next_is) p

  by_next : (P : Standing → Type 0) → P (work.go s).at → P (next_standing ring m by s.at)
  by_next P p = subst P next_is p

  none_early : (x : Name) (round : ℕ) → s.at.round < round → (has_name x k.taken && is_for m round x) ≡ false
  none_early x round late =
      ⊎_elim
      (λ (e : (has_name x k.taken && is_for m round x) ≡ true).
      let taken = and_parts (has_name x k.taken) (is_for m round x) e in
      let for_it = and_parts (x.to == m) (x.round == round) taken.1 in
      let to : x.to ≡ m = same_from x.to m for_it.0 in
      let of_it : x.round ≡ round = same_from x.round round for_it.1 in
      let was = each_was_taken ring blocks k x reached taken.0 in
      let there : slice_get k.standings m ≡ Some was.at =
      subst (λ j. slice_get k.standings j ≡ Some was.at) to was.stands in
      let same_at : was.at ≡ s.at = (let q : Some was.at ≡ Some s.at = sym there ∙ stands in
      (let p : was.at ≡ s.at = cc in p)) in
      let round_is : was.at.round ≡ s.at.round = ap (λ (t : Standing). t.round) same_at in
      let arrived = was.reached in
      absurd (omega arith))
      (λ (e : (has_name x k.taken && is_for m round x) ≡ false). e)
      (cases_Bool (has_name x k.taken && is_for m round x))

  next_held : is_over (work.go s).at.spot ≡ false → (x : Name) →
      has_letter x (work.go s).held ≡ (has_name x k.taken && is_for m (work.go s).at.round x)
  next_held on x =
      elim (onward ring m by s.at keeps.round) [
        | ends over ↦ absurd (false≢true (sym on ∙ at_next (λ t. is_over t.spot ≡ true) over))
        | begins b late ↦ drops x (at_next (λ t. is_begin t.spot ≡ true) b)
            ∙ sym (none_early x (work.go s).at.round (at_next (λ t. s.at.round < t.round) late))
        | stays b round ↦ holds_on x (at_next (λ t. is_begin t.spot ≡ false) b) ∙ tied.held m s here going x
            ∙ ap (λ r. has_name x k.taken && is_for m r x) (sym (at_next (λ t. t.round ≡ s.at.round) round))
      ]

  next_ruling : is_over (work.go s).at.spot ≡ false → Knows m (work.go s) →
      (work.go s).ruling ≡ ruling_in next.rulings (work.go s).at.round
  next_ruling on knows =
      elim (onward ring m by s.at keeps.round) [
        | ends over ↦ absurd (false≢true (sym on ∙ at_next (λ t. is_over t.spot ≡ true) over))
        | begins b late ↦ new_round (at_next (λ t. is_begin t.spot ≡ true) b) knows
        | stays b round ↦ same_round (at_next (λ t. is_begin t.spot ≡ false) b)
            (at_next (λ t. t.round ≡ s.at.round) round) knows
      ]
    where
      judge_rules : (r : ℕ) → s.at.spot ≡ Judge r → (work.go s).ruling ≡ ruling_in next.rulings (work.go s).at.round
      judge_rules r at =
          lawful.go_ruling s
          ∙ ap (acting_ruling judged s.ruling) at
          ∙ sym (ruling_here k.rulings judged (r + 1))
          ∙ sym (ap (λ spot. ruling_in (rulings_after judged spot k.rulings) (r + 1)) at)
          ∙ ap (ruling_in next.rulings) (sym (ap (λ (t : Standing). t.round) next_is ∙ judge_round ring m by s.at r at))

      new_round : is_begin (work.go s).at.spot ≡ true → Knows m (work.go s) →
          (work.go s).ruling ≡ ruling_in next.rulings (work.go s).at.round
      new_round b (inr told) = absurd (false≢true (sym (drops (verdict_name (work.go s).at.round m) b) ∙ told))
      new_round b (inl first) = let j = zero_begins ring m by s.at.spot first.0
          (by_next (λ t. is_begin t.spot ≡ true) b) in judge_rules j.0 j.1

      knew : is_begin (work.go s).at.spot ≡ false → (work.go s).at.round ≡ s.at.round → Knows m (work.go s) → Knows m s
      knew b round (inl first) = inl (first.0, let l = first.1 in omega arith)
      knew b round (inr told) =
          inr (subst (λ r. has_letter (verdict_name r m) s.held ≡ true) round
          (sym (holds_on (verdict_name (work.go s).at.round m) b) ∙ told))

      same_round : is_begin (work.go s).at.spot ≡ false → (work.go s).at.round ≡ s.at.round → Knows m (work.go s) →
          (work.go s).ruling ≡ ruling_in next.rulings (work.go s).at.round
      same_round b round knows =
          let by_it = stays_by ring m by judged s.ruling s.at.spot k.rulings
          (by_next (λ t. is_over t.spot ≡ false) on) (by_next (λ t. is_begin t.spot ≡ false) b) in
          lawful.go_ruling s ∙ by_it.acting_is ∙ tied.rulings m s here going (knew b round knows)
          ∙ ap (λ made. ruling_in made s.at.round) (sym by_it.rulings_are) ∙ ap (ruling_in next.rulings) (sym round)

  -- ---- the world behind it
  gone_machines : (j : ℕ) (t : State) → slice_get gone.sites j ≡ Some t → IsMachine sound split parts j t
  gone_machines j t at =
      elim (set_cases w.sites m (work.go s) j t at) [
        | same e is_it ↦ subst (λ q. IsMachine sound split parts j q) is_it
            (subst (λ i. IsMachine sound split parts i (work.go s)) (sym e) next_machine)
        | other ne there ↦ tied.machines j t there
      ]

  gone_standings : map (λ t. t.at) gone.sites ≡ next.standings
  gone_standings =
      map_set (λ (t : State). t.at) w.sites m (work.go s)
      ∙ ap (λ ss. slice_set ss m (work.go s).at) tied.standings
      ∙ ap (slice_set k.standings m) next_is

  gone_held : (j : ℕ) (t : State) → slice_get gone.sites j ≡ Some t → is_over t.at.spot ≡ false →
      (x : Name) → has_letter x t.held ≡ (has_name x next.taken && is_for j t.at.round x)
  gone_held j t at on x =
      elim (set_cases w.sites m (work.go s) j t at) [
        | same e is_it ↦
            subst (λ q. has_letter x q.held ≡ (has_name x k.taken && is_for j q.at.round x)) is_it
            (subst (λ i. has_letter x (work.go s).held ≡ (has_name x k.taken && is_for i (work.go s).at.round x))
            (sym e)
            (next_held (subst (λ q. is_over q.at.spot ≡ false) (sym is_it) on) x))
        | other ne there ↦ tied.held j t there on x
      ]

  gone_rulings : (j : ℕ) (t : State) → slice_get gone.sites j ≡ Some t → is_over t.at.spot ≡ false → Knows j t →
      t.ruling ≡ ruling_in next.rulings t.at.round
  gone_rulings j t at on knows =
      elim (set_cases w.sites m (work.go s) j t at) [
        | same e is_it ↦
            subst (λ q. q.ruling ≡ ruling_in next.rulings q.at.round) is_it
            (next_ruling (subst (λ q. is_over q.at.spot ≡ false) (sym is_it) on)
            (subst (λ i. Knows i (work.go s)) e (subst (Knows j) (sym is_it) knows)))
        | other ne there ↦
            tied.rulings j t there on knows
            ∙ sym (ruled t.at.round (knows_judged work sound lawful split parts few w k tied reached j t there on
            knows))
      ]

  gone_flies : (x : Name) → has_letter x gone.under_way ≡ has_name x next.under_way
  gone_flies x =
      has_all_placed x (work.sent s) w.under_way
      ∙ ap (λ xs. has_name x xs || has_letter x w.under_way) sent_are
      ∙ ap (λ b. has_name x (gives_of ring m s.at.spot by) || b) (tied.flies x)
      ∙ or_swap (has_name x (gives_of ring m s.at.spot by)) (has_name x k.under_way)
      ∙ sym (name_append x k.under_way (gives_of ring m s.at.spot by))

  gone_count : length gone.under_way ≡ length next.under_way
  gone_count =
      let placed = all_placed_length (work.sent s) w.under_way in
      let named = length-map (work.sent s) (λ (l : Letter). l.name) in
      let sent = ap length sent_are in
      let joined = length-append k.under_way (gives_of ring m s.at.spot by) in
      let before = tied.as_many in
      omega arith

  next_once : Once next.under_way
  next_once = once_from_each next.under_way (few_are_under_way ring blocks next next_reached).once

  -- what is sent is new
  pub sent_new : AreNew (work.sent s) w.under_way
  sent_new =
      are_new (work.sent s) w.under_way
      (subst Once (sym sent_are) (once_later k.under_way (gives_of ring m s.at.spot by) next_once))
      (λ x h. tied.flies x ∙ once_apart k.under_way (gives_of ring m s.at.spot by) next_once x
      (subst (λ xs. Has xs x) sent_are h))

  sent_from : (l : Letter) → Has (work.sent s) l → Has (gives_of ring m s.at.spot by) l.name
  sent_from l h = subst (λ xs. Has xs l.name) sent_are (has_its_name (work.sent s) l h)

  gone_fit : (x : Name) (l : Letter) → found x gone.under_way ≡ Some l →
      (part : PlainPart) → slice_get parts x.to ≡ Some part → FitsForm split part l
  gone_fit x l e part to =
      ⊎_elim
      (λ (old : found x w.under_way ≡ Some l). tied.fit x l old part to)
      (λ (new : Has (work.sent s) l).
      let form = all_has (HasForm s) (work.sent s) l (lawful.sent_fit s is.is_sound (ready_is s ready)) new in
      let named : l.name ≡ x = found_name x gone.under_way l e in
      let from : l.name.from ≡ m = (gift_from ring m s.at.spot by l.name (sent_from l new)).0 in
      fits_along split parts one l s.part part
      (subst (λ i. slice_get parts i ≡ Some s.part) (sym from) is.part)
      (subst (λ y. slice_get parts y.to ≡ Some part) (sym named) to)
      form.0 (subst (λ q. shape_of q s.part l.name ≡ Some form.0) is.split_is form.1) form.2)
      (all_placed_is x (work.sent s) w.under_way l e)

  gone_verdicts : (x : Name) (l : Letter) → found x gone.under_way ≡ Some l → x.kind ≡ Verdict →
      ruling_read l.body ≡ ruling_in next.rulings x.round
  gone_verdicts x l e verdict =
      ⊎_elim
      (λ (old : found x w.under_way ≡ Some l).
      let flew : has_name x k.under_way ≡ true = sym (tied.flies x) ∙ ap is_some old in
      tied.verdicts x l old verdict ∙ sym (ruled x.round (each_is_takeable ring blocks k x reached flew).judged))
      (λ (new : Has (work.sent s) l).
      let named : l.name ≡ x = found_name x gone.under_way l e in
      let judge = (gift_from ring m s.at.spot by l.name (sent_from l new)).1 (ap (λ (y : Name). y.kind) named
      ∙ verdict) in
      let round : x.round ≡ judge.0 + 1 = sym (ap (λ (y : Name). y.round) named) ∙ judge.2 in
      ruled_letter judged l (all_has (Rules judged) (work.sent s) l (lawful.sent_rulings s judge.0 judge.1) new)
      ∙ sym (ruling_here k.rulings judged (judge.0 + 1))
      ∙ sym (ap (λ spot. ruling_in (rulings_after judged spot k.rulings) (judge.0 + 1)) judge.1)
      ∙ ap (ruling_in next.rulings) (sym round))
      (all_placed_is x (work.sent s) w.under_way l e)

  pub gone_tied : IsSkeletonOf sound split parts gone next
  gone_tied = record {
    count = set_length w.sites m (work.go s) ∙ tied.count;
    machines = gone_machines;
    standings = gone_standings;
    held = gone_held;
    rulings = gone_rulings;
    flies = gone_flies;
    as_many = gone_count;
    ascends = all_placed_ascends (work.sent s) w.under_way tied.ascends sent_new;
    fit = gone_fit;
    verdicts = gone_verdicts;
  }
