-- Cores tell over links what the source's run and the order of events tell.
use Rattle.std.proofs.Common.{◌≡◌, ◌≢◌, ◌⊎◌, inl, inr, ℕ, ◌<◌, ◌≤◌, Bool, true, false, cond, List, [], ◌∷◌, ◌++◌, drop, Option, None, Some, length, map, nat_lt, refl, ap, sym, subst, ◌∙◌, arith, append-nil, append_assoc, slice_get, ⊎_elim}
use Rattle.std.specs.Prelude.{◌%◌, if◌then◌else◌, is_some, not, option_map}
use Rattle.std.proofs.lemmas.Bool.{and_parts, cases_eq, ltb-false}
use Rattle.array_text.specs.Events.{event_line as machine_line}
use Rattle.circulant_plan.specs.declared.spot.Ring.{Ring}
use Rattle.circulant_plan.specs.declared.spot.Spot.TheVariants.{Begin}
use Rattle.circulant_plan.specs.Choosing.{names_in_order, ready_machines as order_ready}
use Rattle.circulant_plan.specs.Deliveries.{HasSpot}
use Rattle.circulant_plan.specs.Names.{verdict_name}
use Rattle.circulant_plan.specs.Skeleton.{Skeleton, acting_ruling, first_skeleton, is_finished, ruling_in}
use Rattle.circulant_plan.specs.Standing.{round_of}
use Rattle.circulant_plan.specs.Table.{gives_of, needs_of}
use Rattle.circulant_plan.proofs.Members.{Has}
use Rattle.circulant_plan.proofs.StandingLaws.{not_zero}
use Rattle.cluster_run.specs.declared.fault.EventFault.TheVariants.{NotUnderWay, RunOver}
use Rattle.cluster_run.specs.Faults.{event_fault, lacking}
use Rattle.cluster_run.proofs.WorldChoices.{goes_on, nothing_lacks}
use Rattle.cluster_run.proofs.LetterLists.{has_letter}
use Rattle.cluster_run.proofs.ReachedWorldLaws.{finished_alike, some_site}
use Rattle.cluster_run.proofs.ActionTables.{acts_alike}
use Rattle.cluster_run.proofs.Worlds.{IsMachine, Knows, it_is, it_keeps, ready_going, ready_holds}
use Rattle.command_steps.specs.Notes.{LongSchedule}
use Rattle.command_steps.specs.Orders.{Fails, IsOver, Keeps, Prints}
use Rattle.delivery_log.specs.Choosers.{behind_word, word_of}
use Rattle.instrument.specs.declared.split.Split.{Split}
use Rattle.link_core.specs.declared.event.LinkEvent.{LinkEvent}
use Rattle.link_core.specs.declared.event.LinkEvent.TheVariants.{Go, Take, Lose, Again, Ack, Drop}
use Rattle.link_core.specs.declared.fault.LinkFault.{LinkFault}
use Rattle.link_core.specs.declared.fault.LinkFault.TheVariants.{Plain, NotAgain, NoAck}
use Rattle.link_core.specs.LinkChoices.{link_choices, wire_choices}
use Rattle.link_core.specs.LinkChoosers.{AreDrawn}
use Rattle.link_core.specs.LinkFaults.{fault_within, link_fault_of}
use Rattle.link_core.specs.Links.{Linked, accepts, can_happen, link_after, link_possible, link_step, linked_anew, links_possible, sent_by}
use Rattle.link_core.specs.LinkTexts.{links_text}
use Rattle.link_core.specs.Traffic.{Traffic, acknowledged, all_sent, can_repeat, dropped, has_ack, has_copy, lost, repeated, taken}
use Rattle.link_runs.proofs.OverPlain.{link_not_refused}
use Rattle.link_runs.specs.LinkedPlays.{IsDrawnFar}
use Rattle.link_runs.specs.LinkTellings.{by_links, listed_links, why_not}
use Rattle.link_runs.specs.SourceLinks.{AreDrawnInOrder, IsFarOrder, Ordered, by_source_links, given_by, next_links, ordered_after, ordered_anew, ordered_fault, ordered_step, turn_fault, will_accept}
use Rattle.machine_runs.proofs.SourceFollows.{Goes, choices_next, fault_alike, first_goes, is_run, told_alike}
use Rattle.machine_runs.proofs.TellingLaws.{AreAlike, GoesAlike, followed_alike}
use Rattle.machine_runs.specs.SourceTellings.{by_source}
use Rattle.machine_runs.specs.Tellings.{Telling, by_worlds, followed_as, lack_of, recorded_as, told_event, why_of}
use Rattle.rand_pcg.specs.Lcg.{Lcg}
use Rattle.schedule_laws.specs.Events.{ring_in}
use Rattle.schedule_laws.specs.Laws.{whole_run}
use Rattle.schedule_laws.specs.OutputText.{ideal_taken, next_by}
use Rattle.schedule_laws.specs.Runs.{IsSourceRun}
use Rattle.schedule_laws.proofs.Follows.{Follows, few, gone_is}
use Rattle.symple_face.specs.Cluster.{IsOneRun, World, can_act, finished, first_world, possible, ready_machines, step, takes}
use Rattle.symple_face.specs.CoreWork.{core_work}
use Rattle.symple_face.specs.Lawful.{acting}
use Rattle.symple_face.specs.Parts.{PlainPart}
use Rattle.symple_face.specs.Plans.{ring_of}
use Rattle.symple_face.specs.Source.{Source}
use Rattle.symple_face.specs.State.{State, p_of}
use Rattle.symple_words.specs.declared.line.Lines.{Lines}
use Rattle.vert_base.specs.declared.limits.TheConstants.{SCHEDULE_BYTES}
use Rattle.vert_base.specs.declared.message.Event.{Event}
use Rattle.vert_base.specs.declared.message.Event.TheVariants as plain
use Rattle.vert_base.specs.declared.message.Name.{Name}
use Rattle.vert_base.specs.declared.value.Ruling.{Ruling}
use Rattle.vert_base.specs.Letters.{Letter, found}
use Rattle.word_kinds.specs.Fits.{IsFitting}
use Rattle.work_laws.specs.Sound.{core_sound}
use Rattle.work_laws.proofs.Whole.{core_lawful}
use Rattle.schedule_laws.specs.Texts.{no_lines}

-- ---- lists
drop_front : (xs ys : List Name) → drop (length xs) (xs ++ ys) ≡ ys
drop_front [] ys = refl
drop_front (x ∷ xs) ys = drop_front xs ys

-- the machines of the goes in a list of events
abbrev goes_in : List Event → List ℕ
goes_in [] = []
goes_in (plain.Go m ∷ es) = m ∷ goes_in es
goes_in (plain.Take x ∷ es) = goes_in es

goes_first : (ms : List ℕ) (es : List Event) → goes_in (map (λ m. plain.Go m) ms ++ es) ≡ ms ++ goes_in es
goes_first [] es = refl
goes_first (m ∷ ms) es = ap (λ (ns : List ℕ). m ∷ ns) (goes_first ms es)

no_goes : (xs : List Name) → goes_in (map (λ x. plain.Take x) xs) ≡ []
no_goes [] = refl
no_goes (x ∷ xs) = no_goes xs

none_gone : (ls : List Letter) → goes_in (map (λ l. plain.Take l.name) ls) ≡ []
none_gone [] = refl
none_gone (l ∷ ls) = none_gone ls

only_goes : (ms : List ℕ) (es : List Event) → goes_in es ≡ [] → goes_in (map (λ m. plain.Go m) ms ++ es) ≡ ms
only_goes ms es none = goes_first ms es ∙ ap (λ (ns : List ℕ). ms ++ ns) none ∙ append-nil ms

-- no message has the name
not_found : (o : Option Letter) → is_some o ≡ false → o ≡ None
not_found None none = refl
not_found (Some l) none = cc

-- ---- what a machine sends
module _ (src : Source) (parts : List PlainPart) (one : IsOneRun parts) (run : IsSourceRun src)
    (same_ends : src.job.graph.ends ≡ one.ends) (w : World) (k : Skeleton) (f : Follows src parts w k) (m : ℕ)
    (s : State) (here : slice_get w.sites m ≡ Some s) (ready : can_act (Some s) ≡ true) where
  abbrev ring : Ring
  ring = ring_of src.split (length parts)

  abbrev known : Ruling
  known = ruling_in k.rulings s.at.round

  abbrev by : Ruling
  by = acting_ruling (core_work.judge s) known s.at.spot

  some : length parts ≤ 64
  some = few src parts one run same_ends

  is : IsMachine core_sound src.split parts m s
  is = it_is core_work core_sound core_lawful src.split parts some w k f.alike f.reached m s here

  -- at the begin of a round a machine knows its ruling
  knows_at : (r : ℕ) → s.at.spot ≡ Begin r → Knows m s
  knows_at r at =
      let keeps = it_keeps core_work core_sound core_lawful src.split parts some w k f.alike f.reached m s here in
      let round : s.at.round ≡ r = keeps.round ∙ ap (round_of s.at.round) at in
      let late : 1 ≤ r = subst (HasSpot ring m known) at keeps.has in
      ⊎_elim
      (λ (first : m ≡ 0). inl (first, omega arith))
      (λ (later : m ≢ 0).
      let there : Has (needs_of ring m (Begin r)) (verdict_name r m) =
      subst (λ b. Has (cond b [] (verdict_name r m ∷ [])) (verdict_name r m)) (sym (not_zero m later)) (inl refl) in
      let needed : Has (needs_of ring m s.at.spot) (verdict_name r m) =
      subst (λ spot. Has (needs_of ring m spot) (verdict_name r m)) (sym at) there in
      let held : has_letter (verdict_name r m) s.held ≡ true =
      ready_holds core_work core_sound core_lawful src.split parts some w k f.alike f.reached m s here ready
      (verdict_name r m) needed in
      inr (subst (λ q. has_letter (verdict_name q m) s.held ≡ true) (sym round) held))
      (cases_eq m 0)

  sent_are : map (λ (l : Letter). l.name) (core_work.sent s) ≡ gives_of ring m s.at.spot by
  sent_are =
      let going = ready_going core_work core_sound core_lawful src.split parts some w k f.alike f.reached m s here ready
      in
      core_lawful.sent_names s
      ∙ ap (λ n. gives_of (ring_of s.split (p_of s)) n s.at.spot (acting core_work s)) is.number
      ∙ ap (λ n. gives_of (ring_of s.split n) m s.at.spot (acting core_work s)) is.count
      ∙ ap (λ q. gives_of (ring_of q (length parts)) m s.at.spot (acting core_work s)) is.split_is
      ∙ (acts_alike ring m (core_work.judge s) s.ruling known s.at.spot
      (λ r at. f.alike.rulings m s here going (knows_at r at))).gives

  -- the names that it puts under way
  names_given : map (λ (l : Letter). l.name) (core_work.sent s) ≡ given_by src k m
  names_given =
      sent_are
      ∙ sym (drop_front k.under_way (gives_of ring m s.at.spot by))
      ∙ sym (ap (λ (q : Skeleton). drop (length k.under_way) q.under_way)
      (gone_is src parts one run same_ends w k f m s here ready))

-- ---- states over links, and the order of events with the same traffic
module _ (src : Source) (parts : List PlainPart) (one : IsOneRun parts) (run : IsSourceRun src)
    (same_ends : src.job.graph.ends ≡ one.ends) where
  pub record GoesOver (l : Linked) (s : Ordered) : Type 0 where
    pub world : Goes src parts one run same_ends l.world s.order
    pub traffic : l.traffic ≡ s.traffic

  module _ (l : Linked) (s : Ordered) (g : GoesOver l s) where
    over_alike : finished l.world ≡ is_finished s.order
    over_alike = finished_alike core_work core_sound core_lawful src.split parts one l.world
        (record { k = s.order; reached = g.world.follows.reached; alike = g.world.follows.alike })

    accepts_alike : (x : Name) → accepts l x ≡ will_accept s x
    accepts_alike x = g.world.follows.alike.flies x

    -- ---- why an event can't come next
    turn_alike : (e : LinkEvent) → finished l.world ≡ false → fault_within l e ≡ turn_fault (ring_in src) s e
    turn_alike (Go m) on =
        ap (option_map (λ fault. Plain fault))
        (sym (ap (λ (b : Bool). if b then Some RunOver else event_fault l.world (plain.Go m)) on)
        ∙ fault_alike src parts one run same_ends l.world s.order g.world.follows (plain.Go m))
    turn_alike (Take x) on = ap (λ (t : Traffic). if has_copy t x then None else Some (Plain NotUnderWay)) g.traffic
    turn_alike (Lose x) on = ap (λ (t : Traffic). if has_copy t x then None else Some (Plain NotUnderWay)) g.traffic
    turn_alike (Again x) on = ap (λ (t : Traffic). if can_repeat t x then None else Some NotAgain) g.traffic
    turn_alike (Ack x) on = ap (λ (t : Traffic). if has_ack t x then None else Some NoAck) g.traffic
    turn_alike (Drop x) on = ap (λ (t : Traffic). if has_ack t x then None else Some NoAck) g.traffic

    refused_alike : (e : LinkEvent) → link_fault_of l e ≡ ordered_fault (ring_in src) s e
    refused_alike e = by (finished l.world) refl
      where
        by : (b : Bool) → finished l.world ≡ b → link_fault_of l e ≡ ordered_fault (ring_in src) s e
        by true over =
            ap (λ (b : Bool). if b then Some (Plain RunOver) else fault_within l e) over
            ∙ sym (ap (λ (b : Bool). if b then Some (Plain RunOver) else turn_fault (ring_in src) s e) (sym over_alike
            ∙ over))
        by false on =
            ap (λ (b : Bool). if b then Some (Plain RunOver) else fault_within l e) on
            ∙ turn_alike e on
            ∙ sym (ap (λ (b : Bool). if b then Some (Plain RunOver) else turn_fault (ring_in src) s e) (sym over_alike
            ∙ on))

    -- ---- what may come next
    ready_alike : ready_machines l.world ≡ order_ready (ring_in src) s.order
    ready_alike =
        sym (only_goes (ready_machines l.world) (takes l.world) (none_gone l.world.under_way))
        ∙ ap goes_in (choices_next src parts one run same_ends l.world s.order g.world.follows)
        ∙ only_goes (order_ready (ring_in src) s.order) (map (λ x. plain.Take x) (names_in_order s.order.under_way))
        (no_goes (names_in_order s.order.under_way))

    links_next : link_choices l ≡ next_links (ring_in src) s
    links_next =
        let over = over_alike in
        let ready = ready_alike in
        let traffic = g.traffic in
        (λ i. if over i then [] else map (λ m. Go m) (ready i) ++ wire_choices (traffic i))

    -- ---- a possible event
    gone_names : (m : ℕ) → possible l.world (plain.Go m) ≡ true →
        sent_by core_work (slice_get l.world.sites m) ≡ given_by src s.order m
    gone_names m can =
        let site = some_site (slice_get l.world.sites m) can in
        ap (sent_by core_work) site.1
        ∙ names_given src parts one run same_ends l.world s.order g.world.follows m site.0 site.1
        (subst (λ o. can_act o ≡ true) site.1 can)

    module _ (lines : Lines) where
      abbrev Alike : LinkEvent → Type 0
      Alike e = GoesAlike (by_links core_work lines) (by_source_links lines src) GoesOver l s e

      -- an event of the machines, told as without links
      plain_alike : (e : Event) → possible l.world e ≡ true →
          GoesAlike (by_worlds core_work lines) (by_source lines src) (Goes src parts one run same_ends) l.world
          s.order e
      plain_alike e can = (told_alike src parts one run same_ends lines).goes l.world s.order g.world e
          (ap (option_map (why_of e))
          (((goes_on core_work core_sound core_lawful l.world g.world.reached).played e).0 can))

      taken_alike : (x : Name) (b : Bool) → accepts l x ≡ b → Alike (Take x)
      taken_alike x true is =
          let at = plain_alike (plain.Take x) is in
          let also : will_accept s x ≡ true = sym (accepts_alike x) ∙ is in
          record {
            own = at.own ∙ sym (ap (λ (b : Bool). if lines.log then machine_line (plain.Take x)
                (if b then ideal_taken src (plain.Take x) else None) else []) also);
            ended = refl;
            behind = record {
              world = subst (λ (k : Skeleton). Goes src parts one run same_ends
                  (link_step core_work l (Take x)).world k)
                  (sym (ap (λ (b : Bool). if b then next_by src s.order (plain.Take x) else s.order) also))
                  (subst (λ (w : World). Goes src parts one run same_ends w (next_by src s.order (plain.Take x)))
                  (sym (ap (λ (b : Bool). if b then step core_work l.world (plain.Take x) else l.world) is)) at.behind);
              traffic = ap (taken x) g.traffic;
            };
          }
      taken_alike x false is =
          let also : will_accept s x ≡ false = sym (accepts_alike x) ∙ is in
          record {
            own = ap (λ (o : Option Letter). if lines.log then machine_line (plain.Take x) o else [])
                (not_found (found x l.world.under_way) is)
                ∙ sym (ap (λ (b : Bool). if lines.log then machine_line (plain.Take x)
                (if b then ideal_taken src (plain.Take x) else None) else []) also);
            ended = refl;
            behind = record {
              world = subst (λ (k : Skeleton). Goes src parts one run same_ends
                  (link_step core_work l (Take x)).world k)
                  (sym (ap (λ (b : Bool). if b then next_by src s.order (plain.Take x) else s.order) also))
                  (subst (λ (w : World). Goes src parts one run same_ends w s.order)
                  (sym (ap (λ (b : Bool). if b then step core_work l.world (plain.Take x) else l.world) is)) g.world);
              traffic = ap (taken x) g.traffic;
            };
          }

      event_alike : (e : LinkEvent) → can_happen l e ≡ true → Alike e
      event_alike (Go m) can =
          let at = plain_alike (plain.Go m) can in
          let names = gone_names m can in
          let traffic = g.traffic in
          record {
            own = at.own;
            ended = at.ended;
            behind = record { world = at.behind; traffic = (λ i. all_sent (names i) (traffic i)) };
          }
      event_alike (Take x) can = taken_alike x (accepts l x) refl
      event_alike (Lose x) can =
          record { own = refl; ended = refl; behind = record { world = g.world; traffic = ap (lost x) g.traffic } }
      event_alike (Again x) can =
          record { own = refl; ended = refl; behind = record { world = g.world; traffic = ap (repeated x) g.traffic } }
      event_alike (Ack x) can = record {
        own = refl;
        ended = refl;
        behind = record { world = g.world; traffic = ap (acknowledged x) g.traffic };
      }
      event_alike (Drop x) can =
          record { own = refl; ended = refl; behind = record { world = g.world; traffic = ap (dropped x) g.traffic } }

      -- nothing lacks a finished run
      ends_alike : finished l.world ≡ true →
          (by_links core_work lines).table l ≡ (by_source_links lines src).table s
      ends_alike over = (told_alike src parts one run same_ends lines).table l.world s.order g.world
          (ap (option_map lack_of)
          ((nothing_lacks core_work core_sound core_lawful l.world g.world.reached (lacking l.world) refl).1 over))

  possible_event : (l : Linked) (e : LinkEvent) → link_possible l e ≡ true → can_happen l e ≡ true
  possible_event l e can = (and_parts (not (finished l.world)) (can_happen l e) can).1

  none_refused : (e : LinkEvent) (o : Option LinkFault) → option_map (why_not e) o ≡ None → o ≡ None
  none_refused e None none = refl
  none_refused e (Some why) none = cc

  pub links_alike : (lines : Lines) → AreAlike (by_links core_work lines) (by_source_links lines src) GoesOver
  links_alike lines = record {
    refusal = λ l s g e. ap (option_map (why_not e)) (refused_alike l s g e);
    goes = λ l s g e none. event_alike l s g lines e
        (possible_event l e (link_not_refused l e (none_refused e (link_fault_of l e) none)));
    lacks = λ l s g. (told_alike src parts one run same_ends lines).lacks l.world s.order g.world;
    table = λ l s g none. (told_alike src parts one run same_ends lines).table l.world s.order g.world none;
  }

  step_over : (l : Linked) (s : Ordered) → GoesOver l s → (e : LinkEvent) → link_possible l e ≡ true →
      GoesOver (link_step core_work l e) (ordered_step src s e)
  step_over l s g e can = (event_alike l s g no_lines e (possible_event l e can)).behind

  -- ---- drawn events
  pub drawn_over : (l : Linked) (s : Ordered) → GoesOver l s → (c : Lcg) (es : List LinkEvent) →
      links_possible core_work l es ≡ true → AreDrawn core_work l c es → AreDrawnInOrder src s c es
  drawn_over l s g c [] can drawn = tt
  drawn_over l s g c (e ∷ es) can drawn =
      let p = and_parts (link_possible l e) (links_possible core_work (link_step core_work l e) es) can in (
        sym (over_alike l s g) ∙ drawn.0,
        ap (λ (all : List LinkEvent). slice_get all (word_of c % length all)) (sym (links_next l s g)) ∙ drawn.1,
        drawn_over (link_step core_work l e) (ordered_step src s e) (step_over l s g e p.0) (behind_word c) es p.1
            drawn.2,
      )

  last_over : (l : Linked) (s : Ordered) → GoesOver l s → (es : List LinkEvent) →
      links_possible core_work l es ≡ true →
      finished (link_after core_work l es).world ≡ is_finished (ordered_after src s es).order
  last_over l s g [] can = over_alike l s g
  last_over l s g (e ∷ es) can =
      let p = and_parts (link_possible l e) (links_possible core_work (link_step core_work l e) es) can in
      last_over (link_step core_work l e) (ordered_step src s e) (step_over l s g e p.0) es p.1

  pub far_over : (machines : ℕ) (l : Linked) (s : Ordered) → GoesOver l s → (c : Lcg) (es : List LinkEvent) →
      links_possible core_work l es ≡ true → IsDrawnFar core_work machines [] l c es →
      IsFarOrder src machines [] s c es
  far_over machines l s g c es can (drawn, inl ends) =
      (drawn_over l s g c es can drawn, inl (sym (last_over l s g es can) ∙ ends))
  far_over machines l s g c es can (drawn, inr long) = (drawn_over l s g c es can drawn, inr long)

  -- ---- a recording, up to the end or past the limit of a text
  module _ (lines : Lines) (name : List ℕ) (machines : ℕ) where
    not_long : (added : List LinkEvent) → length (links_text machines added) ≤ SCHEDULE_BYTES →
        SCHEDULE_BYTES < length (links_text machines (added ++ [])) → ⊥
    not_long added fits long =
        let same = ap (λ (xs : List LinkEvent). length (links_text machines xs)) (append-nil added) in
        omega (arith, fits, long, same)

    abbrev t : Telling Linked LinkEvent
    t = by_links core_work lines

    abbrev u : Telling Ordered LinkEvent
    u = by_source_links lines src

    abbrev AreFar : List LinkEvent → Linked → List LinkEvent → Type 0
    AreFar added l es =
        (finished (link_after core_work l es).world ≡ true)
        ⊎ (SCHEDULE_BYTES < length (links_text machines (added ++ es)))

    far_behind : (added : List LinkEvent) (l : Linked) (e : LinkEvent) (es : List LinkEvent) →
        AreFar added l (e ∷ es) → AreFar (added ++ e ∷ []) (link_step core_work l e) es
    far_behind added l e es (inl ends) = inl ends
    far_behind added l e es (inr long) = inr (subst (λ (xs : List LinkEvent).
        SCHEDULE_BYTES < length (links_text machines xs)) (sym (append_assoc added (e ∷ []) es)) long)

    end_over : (added : List LinkEvent) (l : Linked) (s : Ordered) → GoesOver l s →
        length (links_text machines added) ≤ SCHEDULE_BYTES → AreFar added l [] →
        recorded_as (by_links core_work lines) (links_text machines) name added l []
        ≡ recorded_as (by_source_links lines src) (links_text machines) name added s []
    end_over added l s g fits (inl over) =
        ap (λ (table : List ℕ). Keeps name (links_text machines added) (Prints table IsOver)) (ends_alike l s g lines
        over)
    end_over added l s g fits (inr long) = absurd (not_long added fits long)

    pub recorded_over : (added : List LinkEvent) (l : Linked) (s : Ordered) → GoesOver l s → (es : List LinkEvent) →
        links_possible core_work l es ≡ true → length (links_text machines added) ≤ SCHEDULE_BYTES →
        AreFar added l es →
        recorded_as (by_links core_work lines) (links_text machines) name added l es
        ≡ recorded_as (by_source_links lines src) (links_text machines) name added s es
    recorded_over added l s g [] can fits far = end_over added l s g fits far
    recorded_over added l s g (e ∷ es) can fits far =
        by (nat_lt SCHEDULE_BYTES (length (links_text machines (added ++ e ∷ [])))) refl
        (λ short.
        let p = and_parts (link_possible l e) (links_possible core_work (link_step core_work l e) es) can in
        recorded_over (added ++ e ∷ []) (link_step core_work l e) (ordered_step src s e) (step_over l s g e p.0) es p.1
        short (far_behind added l e es far))
      where
        by : (long : Bool) → nat_lt SCHEDULE_BYTES (length (links_text machines (added ++ e ∷ []))) ≡ long →
            (length (links_text machines (added ++ e ∷ [])) ≤ SCHEDULE_BYTES →
            recorded_as t (links_text machines) name (added ++ e ∷ []) (link_step core_work l e) es
            ≡ recorded_as u (links_text machines) name (added ++ e ∷ []) (ordered_step src s e) es) →
            (if long then Fails LongSchedule else told_event t l e
            (recorded_as t (links_text machines) name (added ++ e ∷ []) (link_step core_work l e) es))
            ≡ (if long then Fails LongSchedule else told_event u s e
            (recorded_as u (links_text machines) name (added ++ e ∷ []) (ordered_step src s e) es))
        by true is more = refl
        by false is more =
            let p = and_parts (link_possible l e) (links_possible core_work (link_step core_work l e) es) can in
            let at = event_alike l s g lines e (possible_event l e p.0) in
            let own = at.own in
            let ended = at.ended in
            let rest = more (ltb-false _ _ is) in
            (λ i. Prints (own i) (Prints (ended i) (rest i)))

-- ---- from the first state on
module _ (split : Split) (parts : List PlainPart) (one : IsOneRun parts) (fits : IsFitting split.program.program) where
  abbrev whole : Source
  whole = whole_run split parts one

  abbrev first : Linked
  first = linked_anew (first_world core_work split parts)

  abbrev begun : Ordered
  begun = ordered_anew (first_skeleton (length parts))

  first_over : GoesOver whole parts one (is_run split parts one fits) refl first begun
  first_over = record { world = first_goes split parts one fits; traffic = refl }

  -- a followed text, whatever its events are
  pub links_followed : (lines : Lines) (events : List LinkEvent) →
      followed_as (by_links core_work lines) first (listed_links 1 events)
      ≡ followed_as (by_source_links lines whole) begun (listed_links 1 events)
  links_followed lines events =
      followed_alike (by_links core_work lines) (by_source_links lines whole)
      (GoesOver whole parts one (is_run split parts one fits) refl)
      (links_alike whole parts one (is_run split parts one fits) refl lines) first begun first_over
      (listed_links 1 events)

  module _ (machines : ℕ) (c : Lcg) (es : List LinkEvent) (can : links_possible core_work first es ≡ true)
      (far : IsDrawnFar core_work machines [] first c es) where
    pub links_drawn : IsFarOrder whole machines [] begun c es
    links_drawn = far_over whole parts one (is_run split parts one fits) refl machines first begun first_over c es can
        far

    pub links_recorded : (lines : Lines) (name : List ℕ) → length (links_text machines []) ≤ SCHEDULE_BYTES →
        recorded_as (by_links core_work lines) (links_text machines) name [] first es
        ≡ recorded_as (by_source_links lines whole) (links_text machines) name [] begun es
    links_recorded lines name short =
        recorded_over whole parts one (is_run split parts one fits) refl lines name machines [] first begun first_over
        es
        can short far.1
