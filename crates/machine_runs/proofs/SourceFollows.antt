-- Cores tell what the source's run and the order of events tell: at each world that goes with the run, whatever events
-- led to it.
use Rattle.std.proofs.Common.{◌≡◌, ℕ, Bool, true, false, List, [], ◌∷◌, Option, None, Some, inl, inr, length, refl, ap, sym, ◌∙◌, slice_get}
use Rattle.std.specs.Prelude.{◌%◌, if◌then◌else◌, nat_le, option_map}
use Rattle.std.specs.List.{All}
use Rattle.std.proofs.lemmas.Bool.{and_from, and_parts}
use Rattle.std.proofs.lemmas.Option.{slice_get-map}
use Rattle.array_text.specs.Events.{event_line}
use Rattle.array_text.specs.Tables.{table_text}
use Rattle.circulant_plan.specs.declared.spot.Ring.{Ring}
use Rattle.circulant_plan.specs.Choosing.{missing_of as order_missing}
use Rattle.circulant_plan.specs.Skeleton.{Skeleton, first_skeleton, has_name, is_finished, is_over, resumed_skeleton}
use Rattle.circulant_plan.specs.Table.{needs_of}
use Rattle.circulant_plan.proofs.Members.{Has}
use Rattle.cluster_run.specs.declared.fault.EventFault.{EventFault}
use Rattle.cluster_run.specs.declared.fault.EventFault.TheVariants as fault
use Rattle.cluster_run.specs.Driven.{IsReached, anew}
use Rattle.cluster_run.specs.Faults.{action_fault, event_fault, fault_of, go_fault, lacking, lacks}
use Rattle.cluster_run.proofs.ChoicesAlike.{missing_alike, next_alike}
use Rattle.cluster_run.proofs.WorldChoices.{goes_on as on_from, not_refused, nothing_lacks}
use Rattle.cluster_run.proofs.LetterLists.{has_letter}
use Rattle.cluster_run.proofs.ReachedWorlds.{IsTied}
use Rattle.cluster_run.proofs.ReachedWorldLaws.{finished_alike, steps_on}
use Rattle.cluster_run.proofs.Worlds.{holds_need, needs_are}
use Rattle.delivery_log.specs.Choosers.{IsDrawnRun, behind_word, word_of}
use Rattle.delivery_log.specs.declared.form.Form.{Form}
use Rattle.delivery_log.specs.declared.form.Form.TheVariants.{Roundless}
use Rattle.delivery_log.specs.ScheduleTexts.{schedule_text}
use Rattle.instrument.specs.declared.split.Split.{Split}
use Rattle.rand_pcg.specs.Lcg.{Lcg}
use Rattle.schedule_laws.specs.Events.{ring_in}
use Rattle.schedule_laws.specs.Laws.{later_run, whole_run}
use Rattle.schedule_laws.specs.Layout.{table_of}
use Rattle.schedule_laws.specs.OutputText.{next_by, run_of}
use Rattle.schedule_laws.specs.Runs.{IsSourceRun}
use Rattle.schedule_laws.proofs.Follows.{Follows, count, few}
use Rattle.schedule_laws.proofs.Parts.{parts_run}
use Rattle.schedule_laws.proofs.Printing.{next_follows}
use Rattle.schedule_laws.proofs.Saying.{ended_says, table_says, taken_says}
use Rattle.schedule_laws.proofs.Whole.{first_site, later_goes, later_is_a_run, whole_follows, whole_is_a_run}
use Rattle.symple_face.specs.declared.action.Action.TheVariants.{Over}
use Rattle.symple_face.specs.Cluster.{IsOneRun, IsPlainRun, World, after, all_possible, choices_of, finished, first_world, is_complete, missing_of, possible, restarted_world, step}
use Rattle.symple_face.specs.CoreWork.{core_work}
use Rattle.symple_face.specs.Parts.{PlainPart}
use Rattle.symple_face.specs.Plans.{ring_of}
use Rattle.symple_face.specs.Restarts.{IsStart}
use Rattle.symple_face.specs.Source.{Source}
use Rattle.symple_face.specs.State.{State, first_missing, needs, waiting_for}
use Rattle.symple_face.specs.Work.{PlainStart}
use Rattle.symple_words.specs.declared.line.Lines.{Lines}
use Rattle.vert_base.specs.declared.message.Event.{Event}
use Rattle.vert_base.specs.declared.message.Event.TheVariants.{Go, Take}
use Rattle.vert_base.specs.declared.message.Name.{Name}
use Rattle.vert_base.specs.Letters.{Letter}
use Rattle.word_kinds.specs.Fits.{IsFitting}
use Rattle.work_laws.specs.Sound.{core_sound}
use Rattle.work_laws.proofs.Whole.{core_lawful}
use Rattle.machine_runs.specs.SourceTellings.{IsDrawnOrder, IsPlainOrder, by_source, first_untaken, next_events, order_fault, standing_fault, turn_fault}
use Rattle.machine_runs.specs.Tellings.{by_worlds, followed, lack_of, listed, recorded, why_of}
use Rattle.machine_runs.proofs.TellingLaws.{AreAlike, GoesWell, followed_alike, recorded_alike}
use Rattle.schedule_laws.specs.Texts.{no_lines}

-- ---- what a machine waits for
first_alike : (xs : List Name) (held : List Letter) (taken : List Name) →
    ((x : Name) → Has xs x → has_letter x held ≡ has_name x taken) → first_missing xs held ≡ first_untaken xs taken
first_alike [] held taken each = refl
first_alike (x ∷ xs) held taken each =
    let rest = first_alike xs held taken (λ y there. each y (inr there)) in
    let here = each x (inl refl) in
    (λ i. if here i then rest i else Some x)

waiting_alike : (o : Option Name) → action_fault (waiting_for o) ≡ option_map (λ x. fault.Waits x) o
waiting_alike None = refl
waiting_alike (Some x) = refl

none_refused : (e : Event) (o : Option EventFault) → option_map (why_of e) o ≡ None → o ≡ None
none_refused e None none = refl
none_refused e (Some why) none = cc

-- a possible event isn't refused
possible_played : (w : World) (e : Event) → IsReached core_work core_sound w → possible w e ≡ true →
    fault_of w e ≡ None
possible_played w e reached can = ((on_from core_work core_sound core_lawful w reached).played e).0 can

none_lacking : (o : Option Event) → option_map lack_of (option_map lacks o) ≡ None → option_map lacks o ≡ None
none_lacking None none = refl
none_lacking (Some e) none = cc

module _ (src : Source) (parts : List PlainPart) (one : IsOneRun parts) (run : IsSourceRun src)
    (same_ends : src.job.graph.ends ≡ one.ends) where
  abbrev ring : Ring
  ring = ring_of src.split (length parts)

  ring_same : ring ≡ ring_in src
  ring_same = ap (ring_of src.split) (count src parts one run same_ends)

  module _ (w : World) (k : Skeleton) (f : Follows src parts w k) where
    abbrev tied : IsTied core_sound src.split parts w
    tied = record { k = k; reached = f.reached; alike = f.alike }

    over_alike : finished w ≡ is_finished k
    over_alike = finished_alike core_work core_sound core_lawful src.split parts one w tied

    -- ---- why an event can't come next
    state_alike : (m : ℕ) (s : State) → slice_get w.sites m ≡ Some s →
        go_fault (Some s) ≡ standing_fault ring m k.taken (Some s.at)
    state_alike m s at = by (is_over s.at.spot) refl
      where
        by : (b : Bool) → is_over s.at.spot ≡ b →
            action_fault (if b then Over else waiting_for (first_missing (needs s) s.held))
            ≡ (if b then Some fault.MachineOver
            else option_map (λ x. fault.Waits x) (first_untaken (needs_of ring m s.at.spot) k.taken))
        by true is = refl
        by false going =
            waiting_alike (first_missing (needs s) s.held)
            ∙ ap (λ (o : Option Name). option_map (λ x. fault.Waits x) o)
            (ap (λ (xs : List Name). first_missing xs s.held)
            (needs_are core_work core_sound core_lawful src.split parts (few src parts one run same_ends) w k f.alike
            f.reached m s at)
            ∙ first_alike (needs_of ring m s.at.spot) s.held k.taken
            (holds_need core_work core_sound core_lawful src.split parts (few src parts one run same_ends) w k f.alike
            f.reached m s at going))

    go_alike : (m : ℕ) (o : Option State) → slice_get w.sites m ≡ o →
        go_fault o ≡ standing_fault ring m k.taken (option_map (λ s. s.at) o)
    go_alike m None at = refl
    go_alike m (Some s) at = state_alike m s at

    turn_alike : (e : Event) → event_fault w e ≡ turn_fault ring k e
    turn_alike (Go m) =
        go_alike m (slice_get w.sites m) refl
        ∙ ap (standing_fault ring m k.taken) (sym (slice_get-map (λ (s : State). s.at) w.sites m)
        ∙ ap (λ ss. slice_get ss m) f.alike.standings)
    turn_alike (Take x) = ap (λ (b : Bool). if b then None else Some fault.NotUnderWay) (f.alike.flies x)

    pub fault_alike : (e : Event) → fault_of w e ≡ order_fault (ring_in src) k e
    fault_alike e =
        ap (λ (b : Bool). if b then Some fault.RunOver else event_fault w e) over_alike
        ∙ ap (λ (o : Option EventFault). if is_finished k then Some fault.RunOver else o) (turn_alike e)
        ∙ ap (λ (r : Ring). order_fault r k e) ring_same

    lacking_alike : missing_of w ≡ order_missing (ring_in src) k
    lacking_alike =
        missing_alike core_work core_sound core_lawful src.split parts one w tied
        ∙ ap (λ (r : Ring). order_missing r k) ring_same

    -- what may come next
    pub choices_next : choices_of w ≡ next_events (ring_in src) k
    choices_next =
        next_alike core_work core_sound core_lawful src.split parts one w tied
        ∙ ap (λ (r : Ring). next_events r k) ring_same

  -- ---- runs by a choice of events
  pub plain_order : (w : World) (k : Skeleton) → Follows src parts w k → (es : List Event) →
      all_possible core_work w es ≡ true → IsPlainRun core_work w es → IsPlainOrder src k es
  plain_order w k f [] can over = sym (over_alike w k f) ∙ over
  plain_order w k f (e ∷ es) can plain =
      let c = and_parts (possible w e) (all_possible core_work (step core_work w e) es) can in (
        sym (over_alike w k f) ∙ plain.0,
        ap (λ (all : List Event). slice_get all 0) (sym (choices_next w k f)) ∙ plain.1,
        plain_order (step core_work w e) (next_by src k e) (next_follows src parts one run same_ends w k f e c.0) es c.1
            plain.2,
      )

  pub drawn_order : (w : World) (k : Skeleton) → Follows src parts w k → (g : Lcg) (es : List Event) →
      all_possible core_work w es ≡ true → IsDrawnRun core_work w g es → IsDrawnOrder src k g es
  drawn_order w k f g [] can over = sym (over_alike w k f) ∙ over
  drawn_order w k f g (e ∷ es) can drawn =
      let c = and_parts (possible w e) (all_possible core_work (step core_work w e) es) can in (
        sym (over_alike w k f) ∙ drawn.0,
        ap (λ (all : List Event). slice_get all (word_of g % length all)) (sym (choices_next w k f)) ∙ drawn.1,
        drawn_order (step core_work w e) (next_by src k e) (next_follows src parts one run same_ends w k f e c.0)
            (behind_word g) es c.1 drawn.2,
      )

  -- ---- the whole
  -- a world that goes with the run, from which every complete run ends at the table of the run
  pub record Goes (w : World) (k : Skeleton) : Type 0 where
    pub reached : IsReached core_work core_sound w
    pub follows : Follows src parts w k
    pub ends : (es : List Event) → is_complete core_work w es ≡ true →
        table_of core_work (after core_work w es) ≡ table_text src.job.program (run_of src).last.rows

  module _ (lines : Lines) where
    goes_on : (w : World) (k : Skeleton) → Goes w k → (e : Event) → possible w e ≡ true →
        Goes (step core_work w e) (next_by src k e)
    goes_on w k g e can = record {
      reached = steps_on core_work core_sound w e g.reached can;
      follows = next_follows src parts one run same_ends w k g.follows e can;
      ends = λ es complete.
          let c = and_parts (all_possible core_work (step core_work w e) es)
          (finished (after core_work (step core_work w e) es)) complete in
          g.ends (e ∷ es) (and_from (all_possible core_work w (e ∷ es))
          (finished (after core_work (step core_work w e) es))
          (and_from (possible w e) (all_possible core_work (step core_work w e) es) can c.0) c.1);
    }

    pub told_alike : AreAlike (by_worlds core_work lines) (by_source lines src) Goes
    told_alike = record {
      refusal = λ w k g e. ap (option_map (why_of e)) (fault_alike w k g.follows e);
      goes = λ w k g e none.
          let can = not_refused w e (none_refused e (fault_of w e) none) in
          record {
            own = ap (λ (o : Option Letter). if lines.log then event_line e o else [])
                (taken_says lines src parts one run same_ends w k g.follows e can);
            ended = ended_says lines src parts one run same_ends w k g.follows e can;
            behind = goes_on w k g e can;
          };
      lacks = λ w k g. ap (λ (o : Option Event). option_map lack_of (option_map lacks o))
          (lacking_alike w k g.follows);
      table = λ w k g none. g.ends [] ((nothing_lacks core_work core_sound core_lawful w g.reached (lacking w) refl).0
          (none_lacking (missing_of w) none));
    }

    -- a complete run goes well
    pub goes_well : (w : World) (k : Skeleton) → Goes w k → (es : List Event) → is_complete core_work w es ≡ true →
        GoesWell (by_worlds core_work lines) (by_source lines src) Goes w es
    goes_well w k g [] complete =
        ap (option_map lack_of)
        ((nothing_lacks core_work core_sound core_lawful w g.reached (lacking w) refl).1 complete)
    goes_well w k g (e ∷ es) complete =
        let all = and_parts (all_possible core_work w (e ∷ es)) (finished (after core_work w (e ∷ es))) complete in
        let c = and_parts (possible w e) (all_possible core_work (step core_work w e) es) all.0 in (
          ap (option_map (why_of e)) (possible_played w e g.reached c.0),
          goes_well (step core_work w e) (next_by src k e) (goes_on w k g e c.0) es
              (and_from (all_possible core_work (step core_work w e) es)
              (finished (after core_work (step core_work w e) es)) c.1 all.1),
        )

-- ---- the first world
module _ (split : Split) (parts : List PlainPart) (one : IsOneRun parts) (fits : IsFitting split.program.program) where
  abbrev whole : Source
  whole = whole_run split parts one

  abbrev w : World
  w = first_world core_work split parts

  abbrev k : Skeleton
  k = first_skeleton (length parts)

  abbrev pub is_run : IsSourceRun whole
  is_run = whole_is_a_run split parts one fits

  follows_first : Follows whole parts w k
  follows_first = whole_follows split parts one fits

  pub first_goes : Goes whole parts one is_run refl w k
  first_goes =
      let site = first_site split parts one fits in
      record {
        reached = record {
          split = split;
          parts = parts;
          one_run = one;
          can_run = parts_run split parts one fits;
          first = w;
          is_first = anew refl;
          events = [];
          were_possible = refl;
          here = refl;
        };
        follows = follows_first;
        ends = λ es complete. table_says no_lines whole parts one is_run refl w k follows_first site.0 site.1
            (ap (λ n. if nat_le 1 n then n else 1) site.2) es complete;
      }

  -- a followed run, whatever its events are
  pub followed_told : (lines : Lines) (form : Form) (es : List Event) →
      followed (by_worlds core_work lines) form 0 1 w es ≡ followed (by_source lines whole) form 0 1 k es
  followed_told lines form es =
      followed_alike (by_worlds core_work lines) (by_source lines whole) (Goes whole parts one is_run refl)
      (told_alike whole parts one is_run refl lines) w k first_goes (listed form 0 1 es)

  -- a recorded run that is complete
  pub recorded_told : (lines : Lines) (name : List ℕ) (machines : ℕ) (es : List Event) →
      is_complete core_work w es ≡ true →
      recorded (by_worlds core_work lines) name machines [] w es
      ≡ recorded (by_source lines whole) name machines [] k es
  recorded_told lines name machines es complete =
      recorded_alike (by_worlds core_work lines) (by_source lines whole) (Goes whole parts one is_run refl)
      (told_alike whole parts one is_run refl lines) (schedule_text Roundless machines) name [] w k first_goes es
      (goes_well whole parts one is_run refl lines w k first_goes es complete)

  pub plain_told : (es : List Event) → is_complete core_work w es ≡ true → IsPlainRun core_work w es →
      IsPlainOrder whole k es
  plain_told es complete =
      plain_order whole parts one is_run refl w k follows_first es
      (and_parts (all_possible core_work w es) (finished (after core_work w es)) complete).0

  pub drawn_told : (g : Lcg) (es : List Event) → is_complete core_work w es ≡ true → IsDrawnRun core_work w g es →
      IsDrawnOrder whole k g es
  drawn_told g es complete =
      drawn_order whole parts one is_run refl w k follows_first g es
      (and_parts (all_possible core_work w es) (finished (after core_work w es)) complete).0

-- ---- a world that goes on from a start
module _ (split : Split) (parts : List PlainPart) (one : IsOneRun parts) (start : PlainStart)
    (fits : IsFitting split.program.program) (starts : All (λ part. IsStart part split start) parts) where
  pub later_plain_told : (es : List Event) →
      is_complete core_work (restarted_world core_work split parts start) es ≡ true →
      IsPlainRun core_work (restarted_world core_work split parts start) es →
      IsPlainOrder (later_run split parts one start) (resumed_skeleton (length parts) start.round start.ruling) es
  later_plain_told es complete =
      plain_order (later_run split parts one start) parts one (later_is_a_run split parts one start fits starts) refl
      (restarted_world core_work split parts start) (resumed_skeleton (length parts) start.round start.ruling)
      (later_goes split parts one start fits starts) es
      (and_parts (all_possible core_work (restarted_world core_work split parts start) es)
      (finished (after core_work (restarted_world core_work split parts start) es)) complete).0
