-- A core that is served alone what machine m took in a run: from a world on to the end.
use Rattle.std.proofs.Common.{◌≡◌, ◌≢◌, ℕ, zero, suc, ◌+◌, ◌<◌, ◌≤◌, Bool, true, false, Option, Some, None, List, [], ◌∷◌, ◌++◌, length, map, refl, sym, ap, ◌∙◌, subst, arith, ⊎_elim, append_assoc, length-append, slice_get}
use Rattle.std.specs.Prelude.{is_some, if◌then◌else◌, slice_set}
use Rattle.std.specs.List.{AllByRecursion, list_all}
use Rattle.std.proofs.lemmas.Bool.{and_parts, cases_Bool, cases_eq, cond-false, cond-true, eq-eqb, false≢true, ne_eqb}
use Rattle.std.proofs.lemmas.Option.{slice_get_within}
use Rattle.vert_base.specs.declared.message.Event.{Event}
use Rattle.vert_base.specs.declared.message.Event.TheVariants.{Go, Take}
use Rattle.vert_base.specs.declared.message.Name.{Name}
use Rattle.vert_base.specs.declared.value.Ruling.{Ruling}
use Rattle.vert_base.specs.Letters.{Letter, found}
use Rattle.vert_base.proofs.LetterLaws.{found_name}
use Rattle.circulant_plan.specs.declared.spot.Ring.{Ring}
use Rattle.circulant_plan.specs.Runs.{ruled}
use Rattle.circulant_plan.specs.Skeleton.{Skeleton, has_name, is_over, is_ready}
use Rattle.circulant_plan.specs.Skeleton as plan
use Rattle.circulant_plan.specs.Standing.{Standing}
use Rattle.circulant_plan.specs.Table.{needs_of}
use Rattle.circulant_plan.proofs.Members.{Has}
use Rattle.skeleton_laws.proofs.OrderLaws.{each_was_taken}
use Rattle.dep_message.specs.Laws.{AreBytes}
use Rattle.symple_face.specs.declared.action.Action.TheVariants.{Ready, Waits, Over}
use Rattle.symple_face.specs.Cluster.{IsOneRun, World, after, all_possible, can_act, finished, go_at, is_ready as is_ready_action, possible, step}
use Rattle.symple_face.specs.CoreWork.{core_go, core_sent, core_take, core_work}
use Rattle.symple_face.specs.Ideal.{machines_of}
use Rattle.symple_face.specs.Parts.{PlainPart}
use Rattle.symple_face.specs.Plans.{blocks_of, ring_of}
use Rattle.symple_face.specs.Source.{Source}
use Rattle.symple_face.specs.State.{IsTakeable, State, action_of, first_missing, needs, shape_at, waiting_for}
use Rattle.work_laws.specs.Sound.{core_sound}
use Rattle.work_laws.proofs.Whole.{core_lawful}
use Rattle.cluster_run.proofs.GoWorlds.{ready_is}
use Rattle.cluster_run.proofs.LetterLists.{has_letter}
use Rattle.cluster_run.proofs.SiteLists.{get_one, set_here, set_other}
use Rattle.cluster_run.proofs.TakeWorlds as take
use Rattle.cluster_run.proofs.Worlds.{holds_need, it_stands}
use Rattle.schedule_laws.specs.Events.{IsTrue, ring_in}
use Rattle.schedule_laws.specs.OutputText.{next_by, rulings_of}
use Rattle.schedule_laws.specs.Runs.{IsSourceRun}
use Rattle.schedule_laws.proofs.Follows.{Follows, count, few, taker, taker_at, took_is}
use Rattle.schedule_laws.proofs.Printing.{next_follows}
use Rattle.worker_stream.specs.Fronts.{front_of}
use Rattle.worker_stream.specs.Prompt.{handed, sent_at, sent_by, taken_at, taken_by}
use Rattle.worker_stream.specs.Sent.{spelled_letter, spelled_letters}
use Rattle.worker_stream.specs.Walks.{way_of}
use Rattle.worker_stream.specs.Worker.{Finishes, Refuses, Served, behind_text, ends_at, served_from, takes_front}
use Rattle.worker_stream.proofs.PromptLaws.{all_over, letter_due, letter_read, spelled_more}
use Rattle.worker_stream.proofs.StateWalks.{go_walks}
use Rattle.worker_stream.proofs.WorkerLaws.{at_action, at_end, at_message}
use Rattle.worker_laws.proofs.Ahead.{AreLed, CanLead, given, given_more, given_on, led, led_on}
use Rattle.worker_laws.proofs.Along.{IsAlong, acts_along, holds, others_along, stands_at}
use Rattle.worker_laws.proofs.BySource.{can_lead, goes_to, held_of, ideal_letter, needs_are, ready_by, ready_parts, sends}
use Rattle.worker_laws.proofs.Taking.{given_same, letter_body, letter_new, takes_along, takes_too}
use Rattle.state_laws.proofs.Options.{some_of}
use Rattle.cluster_run.specs.Sends.{sent_with}

-- the text of messages with their ideal bodies
abbrev ideal_text : Source → List Name → List ℕ
ideal_text src xs = spelled_letters (map (ideal_letter src) xs)

ideal_more : (src : Source) (xs ys : List Name) → ideal_text src (xs ++ ys) ≡ ideal_text src xs ++ ideal_text src ys
ideal_more src [] ys = refl
ideal_more src (x ∷ xs) ys = ap (λ q. spelled_letter (ideal_letter src x) ++ q) (ideal_more src xs ys)
    ∙ sym (append_assoc (spelled_letter (ideal_letter src x)) (ideal_text src xs) (ideal_text src ys))

-- ---- machines
waits_by : (b : Bool) (o : Option Name) → b ≡ false →
    is_ready_action (if b then Over else waiting_for o) ≡ false →
    (x : Name) × ((if b then Over else waiting_for o) ≡ Waits x)
waits_by true o e busy = absurd (false≢true (sym e))
waits_by false None e busy = absurd (false≢true (sym busy))
waits_by false (Some x) e busy = (x, refl)

go_taken : (ring : Ring) (a : Ruling) (m : ℕ) (o : Option Standing) (k : Skeleton) →
    (plan.go_at ring a m o k).taken ≡ k.taken
go_taken ring a m None k = refl
go_taken ring a m (Some s) k = refl

go_other : (w : World) (j m : ℕ) (o : Option State) → j ≢ m →
    slice_get (go_at core_work w j o).sites m ≡ slice_get w.sites m
go_other w j m None ne = refl
go_other w j m (Some t) ne = set_other w.sites j m (core_go t) (λ e. ne (sym e))

-- ---- from a world on
-- what the core, from this state on, makes of the messages that machine m takes: first what it has sent ahead, and
-- then its text, are what machine m sends
pub record ServesOn (src : Source) (m at : ℕ) (s : State) (w : World) (es : List Event) (ahead : List Name)
    (rest : List ℕ) : Type 0 where
  pub last : State
  pub text : List ℕ
  pub served : served_from core_work at s (spelled_letters (taken_by core_work m w es) ++ rest) ≡ record {
    used = at + length (spelled_letters (taken_by core_work m w es));
    text = text;
    end = Finishes last;
  }
  pub joined : ideal_text src ahead ++ text ≡ spelled_letters (sent_by core_work m w es)
  pub truth : IsTrue src m last
  pub there : State
  pub stands : slice_get (after core_work w es).sites m ≡ Some there
  pub ends : last.at ≡ there.at

module _ (src : Source) (parts : List PlainPart) (one : IsOneRun parts) (run : IsSourceRun src)
    (same_ends : src.job.graph.ends ≡ one.ends) (m : ℕ) (low : m < machines_of src) (rest : List ℕ) where
  abbrev rule : ℕ → Ruling
  rule = rulings_of src

  abbrev ring : Ring
  ring = ring_in src

  abbrev Serves : ℕ → State → World → List Event → ℕ → Standing → Type 0
  Serves at s w es n from = ServesOn src m at s w es (given_on ring rule m n from) rest

  abbrev Bytes : List Letter → Type 0
  Bytes ls = AllByRecursion (λ (l : Letter). AreBytes l.body) ls

  -- ---- the machine of the run
  module _ (w : World) (k : Skeleton) (f : Follows src parts w k) (t : State) (there : slice_get w.sites m ≡ Some t)
    where
      sound : core_sound t
      sound = (f.alike.machines m t there).is_sound

      truth : IsTrue src m t
      truth = f.machines m t there

      early : (x : Name) → has_name x k.taken ≡ true → x.to ≡ m → x.round ≤ t.at.round
      early x taken to =
          let was = each_was_taken (ring_of src.split (length parts)) (blocks_of src.split) k x f.reached taken in
          let here : slice_get k.standings m ≡ Some t.at =
          it_stands core_work core_sound core_lawful src.split parts (few src parts one run same_ends) w k f.alike
          f.reached m t there in
          let same : was.at ≡ t.at = get_one (slice_get k.standings m) was.at t.at
          (subst (λ j. slice_get k.standings j ≡ Some was.at) to was.stands) here in
          subst (λ (q : Standing). x.round ≤ q.round) same was.reached

      can_go : action_of t ≡ Ready → is_over t.at.spot ≡ false → CanLead ring rule m k.taken t.at
      can_go ready going =
          can_lead src run m low t truth sound ready k.taken
          (subst (λ p. (x : Name) → Has (needs_of (ring_of src.split p) m t.at.spot) x →
          has_letter x t.held ≡ has_name x k.taken) (count src parts one run same_ends)
          (holds_need core_work core_sound core_lawful src.split parts (few src parts one run same_ends) w k f.alike
          f.reached m t there going))

      -- ---- the core acts
      module _ (at : ℕ) (es : List Event) (n : ℕ) (s : State) (along : IsAlong src m k.taken t.at n s) where
        ahead_by : action_of s ≡ Ready → IsAlong src m k.taken t.at (suc n) (core_go s)
        ahead_by ready =
            acts_along src run m low k.taken t.at (stands_at src run m low t sound truth) n s along early ready

        sent_ahead : action_of s ≡ Ready →
            core_sent s ≡ map (ideal_letter src) (given ring rule m (led_on ring rule m n t.at))
        sent_ahead ready =
            sends src run m low s along.truth along.sound ready
            ∙ ap (λ (q : Standing). map (ideal_letter src) (given ring rule m q)) along.at

        acts_on : action_of s ≡ Ready → Serves at (core_go s) w es (suc n) t.at → Serves at s w es n t.at
        acts_on ready on =
            let first : List Name = given_on ring rule m n t.at in
            let more : List Name = given ring rule m (led_on ring rule m n t.at) in
            record {
              last = on.last;
              text = spelled_letters (core_sent s) ++ on.text;
              served = at_action core_work core_sound core_lawful at s
                  (spelled_letters (taken_by core_work m w es) ++ rest) along.walks ready
                  ∙ ap (behind_text (spelled_letters (core_sent s))) on.served;
              joined =
                  ap (λ (q : List ℕ). ideal_text src first ++ (q ++ on.text)) (ap spelled_letters (sent_ahead ready))
                  ∙ sym (append_assoc (ideal_text src first) (ideal_text src more) on.text)
                  ∙ ap (λ (q : List ℕ). q ++ on.text) (sym (ideal_more src first more))
                  ∙ ap (λ (q : List Name). ideal_text src q ++ on.text) (sym (given_more ring rule m n t.at))
                  ∙ on.joined;
              truth = on.truth;
              there = on.there;
              stands = on.stands;
              ends = on.ends;
            }

      -- as long as it can
      eager : (fuel at : ℕ) (es : List Event) (n : ℕ) (s : State) → IsAlong src m k.taken t.at n s → way_of s < fuel →
          ((j : ℕ) (u : State) → IsAlong src m k.taken t.at j u → can_act (Some u) ≡ false →
          Serves at u w es j t.at) → Serves at s w es n t.at
      eager zero at es n s along less wait = absurd (omega arith)
      eager (suc fuel) at es n s along less wait =
          ⊎_elim
          (λ (can : can_act (Some s) ≡ true).
          let ready = ready_is s can in
          let nearer = (go_walks core_work core_sound core_lawful s along.walks ready).less in
          acts_on at es n s along ready
          (eager fuel at es (suc n) (core_go s) (ahead_by at es n s along ready) (omega arith) wait))
          (λ (busy : can_act (Some s) ≡ false). wait n s along busy)
          (cases_Bool (can_act (Some s)))

      -- where it isn't ahead it is ready with the machine of the run
      ready_too : (s : State) → IsAlong src m k.taken t.at 0 s → action_of t ≡ Ready → action_of s ≡ Ready
      ready_too s along ready =
          let can = can_go ready (ready_parts t ready).0 in
          let same : s.at ≡ t.at = along.at in
          let going : is_over s.at.spot ≡ false = ap (λ (q : Standing). is_over q.spot) same ∙ can.going in
          let all : is_ready ring m s.at k.taken ≡ true =
          ap (λ (q : Standing). is_ready ring m q k.taken) same ∙ can.ready in
          ready_by s going
          (ap (λ xs. first_missing xs s.held) (needs_are src run m low s along.truth)
          ∙ held_of (needs_of ring m s.at.spot) s.held k.taken
          (holds src run m low k.taken t.at (stands_at src run m low t sound truth) 0 s along going) all)

      -- ---- the end
      ends_here : (at n : ℕ) (s : State) → IsAlong src m k.taken t.at n s → finished w ≡ true →
          Serves at s w [] n t.at
      ends_here at (suc n) s along over =
          absurd (false≢true (sym along.led.0.going ∙ all_over w.sites m t over there))
      ends_here at zero s along over =
          let spot : is_over s.at.spot ≡ true =
          ap (λ (q : Standing). is_over q.spot) along.at ∙ all_over w.sites m t over there in
          let action : action_of s ≡ Over =
          ap (λ b. if b then Over else waiting_for (first_missing (needs s) s.held)) spot in
          record {
            last = s;
            text = [];
            served = at_end core_work core_sound core_lawful at s rest along.walks action
                ∙ ap (λ i. ends_at i (Finishes s)) (let e : at ≡ at + 0 = omega arith in e);
            joined = refl;
            truth = along.truth;
            there = t;
            stands = there;
            ends = along.at;
          }

  abbrev Claim : List Event → Type 0
  Claim es =
      (at : ℕ) (w : World) (k : Skeleton) (f : Follows src parts w k) (t : State) → slice_get w.sites m ≡ Some t →
      (n : ℕ) (s : State) → IsAlong src m k.taken t.at n s → all_possible core_work w es ≡ true →
      finished (after core_work w es) ≡ true → Bytes (taken_by core_work m w es) → Serves at s w es n t.at

  -- ---- an action of the run
  module _ (j : ℕ) (es : List Event) (claim : Claim es) (w : World) (k : Skeleton) (f : Follows src parts w k)
      (t : State) (there : slice_get w.sites m ≡ Some t) (can : possible w (Go j) ≡ true)
      (all : all_possible core_work (step core_work w (Go j)) es ≡ true)
      (over : finished (after core_work (step core_work w (Go j)) es) ≡ true)
      (bytes : Bytes (taken_by core_work m (step core_work w (Go j)) es)) where
    abbrev v : World
    v = step core_work w (Go j)

    abbrev k' : Skeleton
    k' = next_by src k (Go j)

    f' : Follows src parts v k'
    f' = next_follows src parts one run same_ends w k f (Go j) can

    same_taken : k'.taken ≡ k.taken
    same_taken = go_taken (ring_in src) (ruled (rulings_of src) k) j (slice_get k.standings j) k

    -- of machine m
    module _ (is : j ≡ m) where
      here : slice_get w.sites j ≡ Some t
      here = ap (slice_get w.sites) is ∙ there

      ready : action_of t ≡ Ready
      ready = ready_is t (sym (ap can_act here) ∙ can)

      next : slice_get v.sites m ≡ Some (core_go t)
      next =
          ap (λ (o : Option State). slice_get (go_at core_work w j o).sites m) here
          ∙ ap (λ i. slice_get (slice_set w.sites i (core_go t)) m) is
          ∙ set_here w.sites m (core_go t) (slice_get_within w.sites m t there)

      to : (core_go t).at ≡ led ring rule m t.at
      to = goes_to src run m low t (truth w k f t there) (sound w k f t there) ready

      sends_so : sent_at core_work m w (Go j) ≡ core_sent t
      sends_so = cond-true _ _ _ (eq-eqb j m is) ∙ ap (sent_with core_work) there

      caught : (at i : ℕ) (u : State) → IsAlong src m k.taken t.at (suc i) u → Serves at u w (Go j ∷ es) (suc i) t.at
      caught at i u on =
          let along : IsAlong src m k.taken (core_go t).at i u = record {
            truth = on.truth;
            sound = on.sound;
            walks = on.walks;
            agrees = on.agrees;
            led = subst (AreLed ring rule m k.taken i) (sym to) on.led.1;
            at = on.at ∙ ap (led_on ring rule m i) (sym to);
          } in
          let ih : Serves at u v es i (core_go t).at =
          claim at v k' f' (core_go t) next i u
          (subst (λ xs. IsAlong src m xs (core_go t).at i u) (sym same_taken) along) all over bytes in
          let first : List Name = given ring rule m t.at in
          let more : List Name = given_on ring rule m i (led ring rule m t.at) in
          record {
            last = ih.last;
            text = ih.text;
            served = ih.served;
            joined =
                ap (λ (q : List ℕ). q ++ ih.text) (ideal_more src first more)
                ∙ append_assoc (ideal_text src first) (ideal_text src more) ih.text
                ∙ ap (λ (q : List ℕ). ideal_text src first ++ q)
                (ap (λ (q : Standing). ideal_text src (given_on ring rule m i q) ++ ih.text) (sym to) ∙ ih.joined)
                ∙ ap (λ (q : List ℕ). q ++ spelled_letters (sent_by core_work m v es))
                (sym (ap spelled_letters (sends src run m low t (truth w k f t there) (sound w k f t there) ready)))
                ∙ sym (spelled_more (core_sent t) (sent_by core_work m v es))
                ∙ ap (λ (ls : List Letter). spelled_letters (ls ++ sent_by core_work m v es)) (sym sends_so);
            truth = ih.truth;
            there = ih.there;
            stands = ih.stands;
            ends = ih.ends;
          }

      goes : (at n : ℕ) (s : State) → IsAlong src m k.taken t.at n s → Serves at s w (Go j ∷ es) n t.at
      goes at zero s along =
          let now = ready_too w k f t there s along ready in
          acts_on w k f t there at (Go j ∷ es) 0 s along now
          (caught at 0 (core_go s) (ahead_by w k f t there at es 0 s along now))
      goes at (suc i) s along = caught at i s along

    -- of another one
    another : (at n : ℕ) (s : State) → IsAlong src m k.taken t.at n s → j ≢ m → Serves at s w (Go j ∷ es) n t.at
    another at n s along ne =
        let next : slice_get v.sites m ≡ Some t = go_other w j m (slice_get w.sites j) ne ∙ there in
        let ih : Serves at s v es n t.at =
        claim at v k' f' t next n s (subst (λ xs. IsAlong src m xs t.at n s) (sym same_taken) along) all over bytes in
        let none : sent_at core_work m w (Go j) ≡ [] = cond-false _ _ _ (ne_eqb j m ne) in
        record {
          last = ih.last;
          text = ih.text;
          served = ih.served;
          joined = ih.joined
              ∙ ap (λ (ls : List Letter). spelled_letters (ls ++ sent_by core_work m v es)) (sym none);
          truth = ih.truth;
          there = ih.there;
          stands = ih.stands;
          ends = ih.ends;
        }

  -- ---- a message that is taken
  module _ (x : Name) (es : List Event) (claim : Claim es) (w : World) (k : Skeleton) (f : Follows src parts w k)
      (t : State) (there : slice_get w.sites m ≡ Some t) (l : Letter) (found_it : found x w.under_way ≡ Some l)
      (all : all_possible core_work (step core_work w (Take x)) es ≡ true)
      (over : finished (after core_work (step core_work w (Take x)) es) ≡ true) where
    abbrev w' : World
    w' = step core_work w (Take x)

    abbrev t' : State
    t' = taker src parts one run same_ends w k f x l found_it

    named : l.name ≡ x
    named = found_name x w.under_way l found_it

    follows : Follows src parts w' (next_by src k (Take x))
    follows = next_follows src parts one run same_ends w k f (Take x) (ap is_some found_it)

    sites : slice_get w'.sites m ≡ slice_get (slice_set w.sites x.to (core_take t' l)) m
    sites = ap (λ (q : World). slice_get q.sites m) (took_is src parts one run same_ends w k f x l found_it)

    abbrev taken_as : List Letter
    taken_as = taken_at m w (Take x)

    handed_so : taken_as ≡ handed m (Some l)
    handed_so = ap (handed m) found_it

    -- by machine m
    module _ (to : x.to ≡ m) (bytes : Bytes (taken_as ++ taken_by core_work m w' es)) where
      same : t' ≡ t
      same = get_one (slice_get w.sites m) t' t
          (subst (λ i. slice_get w.sites i ≡ Some t') to (taker_at src parts one run same_ends w k f x l found_it))
          there

      takes : IsTakeable t l
      takes = subst (λ (q : State). IsTakeable q l) same
          (take.takeable core_work core_sound core_lawful src.split parts (few src parts one run same_ends) one w k
          f.alike f.reached x l found_it)

      next_site : slice_get w'.sites m ≡ Some (core_take t l)
      next_site =
          sites
          ∙ ap (λ i. slice_get (slice_set w.sites i (core_take t' l)) m) to
          ∙ set_here w.sites m (core_take t' l) (slice_get_within w.sites m t there)
          ∙ ap (λ (q : State). Some (core_take q l)) same

      one_taken : taken_as ≡ l ∷ []
      one_taken = handed_so ∙ cond-true _ _ _ (eq-eqb l.name.to m (ap (λ (y : Name). y.to) named ∙ to))

      each : Bytes (l ∷ taken_by core_work m w' es)
      each = subst (λ (ls : List Letter). Bytes (ls ++ taken_by core_work m w' es)) one_taken bytes

      -- where the core can't act
      waits : (at n : ℕ) (s : State) → IsAlong src m k.taken t.at n s → can_act (Some s) ≡ false →
          Serves at s w (Take x ∷ es) n t.at
      waits at n s along busy =
          let new = letter_new src parts one run same_ends w k f x l found_it m to t there in
          let body = letter_body src parts one run same_ends w k f x l found_it in
          let able : IsTakeable s l =
          takes_too src run m low k.taken t (sound w k f t there) (truth w k f t there) n s along x l named new body
          takes in
          let on =
          takes_along src run m low k.taken t (sound w k f t there) (truth w k f t there) n s along x l named new body
          takes in
          let pending =
          given_same src run m low k.taken t (sound w k f t there) (truth w k f t there) n s along x l named new body
          takes n refl in
          let ih : Serves (at + length (spelled_letter l)) (core_take s l) w' es n (core_take t l).at =
          claim (at + length (spelled_letter l)) w' (next_by src k (Take x)) follows (core_take t l) next_site n
          (core_take s l) on all over each.1 in
          let taken : List Letter = taken_by core_work m w' es in
          let more : List ℕ = spelled_letters taken ++ rest in
          let waiting = waits_by (is_over s.at.spot) (first_missing (needs s) s.held) able.going busy in
          let read = letter_read s l able along.sound.can each.0 more in
          let grouped : spelled_letters (taken_as ++ taken) ++ rest ≡ spelled_letter l ++ more =
          ap (λ (ls : List Letter). spelled_letters (ls ++ taken) ++ rest) one_taken
          ∙ append_assoc (spelled_letter l) (spelled_letters taken) rest in
          let long : length (spelled_letters (taken_as ++ taken)) ≡ length (spelled_letter l ++ spelled_letters taken) =
          ap (λ (ls : List Letter). length (spelled_letters (ls ++ taken))) one_taken in
          let counted : at + length (spelled_letter l) + length (spelled_letters taken)
          ≡ at + length (spelled_letters (taken_as ++ taken)) =
          omega (arith, long, length-append (spelled_letter l) (spelled_letters taken)) in
          record {
            last = ih.last;
            text = ih.text;
            served = ap (served_from core_work at s) grouped
                ∙ (at_message core_work core_sound core_lawful at s waiting.0 (spelled_letter l ++ more) along.walks
                waiting.1
                ∙ (ap (λ i. takes_front core_work (served_from core_work) at s waiting.0 i (front_of (shape_at s)
                (spelled_letter l ++ more))) read.size
                ∙ (ap (λ q. takes_front core_work (served_from core_work) at s waiting.0 (length (spelled_letter l)) q)
                read.there
                ∙ (ap (λ b. if b then served_from core_work (at + length (spelled_letter l)) (core_take s l) more
                else ends_at (at + length (spelled_letter l)) (Refuses 5 at))
                (letter_due s l able along.sound.can each.0)
                ∙ (ih.served
                ∙ ap (λ i. (let r : Served = record {
                  used = i;
                  text = ih.text;
                  end = Finishes ih.last;
                } in r)) counted)))));
            joined = ap (λ xs. ideal_text src xs ++ ih.text) (sym pending) ∙ ih.joined;
            truth = ih.truth;
            there = ih.there;
            stands = ih.stands;
            ends = ih.ends;
          }

      takes_on : (at n : ℕ) (s : State) → IsAlong src m k.taken t.at n s → Serves at s w (Take x ∷ es) n t.at
      takes_on at n s along =
          eager w k f t there (suc (way_of s)) at (Take x ∷ es) n s along (omega arith) (waits at)

    -- by another one
    taken_by_others : x.to ≢ m → Bytes (taken_as ++ taken_by core_work m w' es) → (at n : ℕ) (s : State) →
        IsAlong src m k.taken t.at n s → Serves at s w (Take x ∷ es) n t.at
    taken_by_others ne bytes at n s along =
        let none : taken_as ≡ [] =
        handed_so ∙ cond-false _ _ _ (ne_eqb l.name.to m (λ e. ne (sym (ap (λ (y : Name). y.to) named) ∙ e))) in
        let next : slice_get w'.sites m ≡ Some t =
        sites ∙ (set_other w.sites x.to m (core_take t' l) (λ e. ne (sym e)) ∙ there) in
        let taken : List Letter = taken_by core_work m w' es in
        let ih : Serves at s w' es n t.at =
        claim at w' (next_by src k (Take x)) follows t next n s
        (others_along src run m low k.taken t.at
        (stands_at src run m low t (sound w k f t there) (truth w k f t there)) n s along x ne) all over
        (subst (λ (ls : List Letter). Bytes (ls ++ taken)) none bytes) in
        record {
          last = ih.last;
          text = ih.text;
          served = subst (λ (ls : List Letter). served_from core_work at s (spelled_letters (ls ++ taken) ++ rest)
              ≡ record {
                used = at + length (spelled_letters (ls ++ taken));
                text = ih.text;
                end = Finishes ih.last;
              }) (sym none) ih.served;
          joined = ih.joined;
          truth = ih.truth;
          there = ih.there;
          stands = ih.stands;
          ends = ih.ends;
        }

  -- ---- all events
  by_go : (j : ℕ) (es : List Event) → Claim es → Claim (Go j ∷ es)
  by_go j es claim at w k f t there n s along all over bytes =
      let can = and_parts (possible w (Go j)) (all_possible core_work (step core_work w (Go j)) es) all in
      ⊎_elim
      (λ (is : j ≡ m). goes j es claim w k f t there can.0 can.1 over bytes is at n s along)
      (λ (ne : j ≢ m). another j es claim w k f t there can.0 can.1 over bytes at n s along ne)
      (cases_eq j m)

  by_take : (x : Name) (es : List Event) → Claim es → Claim (Take x ∷ es)
  by_take x es claim at w k f t there n s along all over bytes =
      let can = and_parts (possible w (Take x)) (all_possible core_work (step core_work w (Take x)) es) all in
      let l = some_of (found x w.under_way) can.0 in
      ⊎_elim
      (λ (to : x.to ≡ m). takes_on x es claim w k f t there l.0 l.1 can.1 over to bytes at n s along)
      (λ (ne : x.to ≢ m). taken_by_others x es claim w k f t there l.0 l.1 can.1 over ne bytes at n s along)
      (cases_eq x.to m)

  pub serves_on : (es : List Event) → Claim es
  serves_on [] = λ at w k f t there n s along all over bytes. ends_here w k f t there at n s along over
  serves_on (Go j ∷ es) = by_go j es (serves_on es)
  serves_on (Take x ∷ es) = by_take x es (serves_on es)
