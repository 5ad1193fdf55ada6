-- What a recorded run kept is replayed to the same bytes.
use Rattle.std.proofs.Common.{◌≡◌, ℕ, ◌+◌, ◌≤◌, Bool, true, false, List, [], ◌∷◌, ◌++◌, length, Option, Some, None, nat_lt, refl, sym, ap, subst, ◌∙◌, arith, append_assoc, append-nil}
use Rattle.std.specs.Prelude.{if◌then◌else◌, option_map}
use Rattle.std.specs.List.{AllByRecursion}
use Rattle.std.proofs.lemmas.Bool.{and_parts, ltb-false}
use Rattle.chunk_split.specs.Bounds.{costs_of}
use Rattle.chunk_split.proofs.EndLaws.{ends_length}
use Rattle.cluster_run.specs.declared.fault.EventFault.{EventFault}
use Rattle.cluster_run.specs.declared.fault.Missing.{Missing}
use Rattle.cluster_run.specs.Driven.{IsReached}
use Rattle.cluster_run.specs.Faults.{lacking, lacks}
use Rattle.command_steps.specs.Courses.{course_end, course_text}
use Rattle.command_steps.specs.Notes.{LongSchedule}
use Rattle.command_steps.specs.Orders.{Course, Fails, Play}
use Rattle.delivery_log.specs.declared.fault.ScheduleFault.TheVariants.{Header}
use Rattle.delivery_log.specs.declared.form.Form.{Form}
use Rattle.delivery_log.specs.declared.form.Form.TheVariants.{Roundless}
use Rattle.delivery_log.specs.Choosers.{generator_of}
use Rattle.delivery_log.specs.Says.{Says}
use Rattle.delivery_log.specs.ScheduleTexts.{IsEvent, event_lines, round_after, schedule_text}
use Rattle.delivery_log.proofs.PairLaws.{stands_for_one}
use Rattle.delivery_log.proofs.RecordLaws.{begun_small}
use Rattle.schedule_laws.specs.Layout.{round_lines}
use Rattle.symple_face.specs.Cluster.{World, after, all_possible, finished, possible, step}
use Rattle.symple_face.specs.Lawful.{IsLawful}
use Rattle.symple_face.specs.State.{State}
use Rattle.symple_face.specs.Work.{Work}
use Rattle.symple_run.specs.Followed.{ByEvents, ByLinks, ByText, IsFaulty, IsFollowed, IsFollowedPlay, Tells}
use Rattle.machine_runs.specs.PlainPlays.{IsFirstWorld, log_line}
use Rattle.symple_run.specs.Recorded.{IsDrawnPlay}
use Rattle.symple_run.specs.Replays.{GainsTheSame, ReplaysGainTheSame, kept_bytes}
use Rattle.machine_runs.specs.Tellings.{by_worlds, followed, lack_of, recorded, told_end, told_event, unless_lacking, unless_refused, why_of}
use Rattle.symple_run.proofs.CoreRuns.{ChosenWell, first_reached}
use Rattle.symple_run.proofs.SpelledEvents.{events_told}
use Rattle.machine_runs.proofs.FirstLaws.{first_same}
use Rattle.symple_run.proofs.TextTasks.{no_fault, one_form}
use Rattle.symple_words.specs.declared.line.Lines.{Lines}
use Rattle.symple_words.specs.Ranges.{AreMachines}
use Rattle.vert_base.specs.declared.limits.TheConstants.{SCHEDULE_BYTES}
use Rattle.vert_base.specs.declared.message.Event.{Event}

-- a recording that kept bytes: they are the text of all its events, and following these events gains the same
record KeptAll (text : List ℕ) (bytes : List ℕ) (machines : ℕ) (events : List Event) (other : Course) : Type 0 where
  bytes_are : bytes ≡ schedule_text Roundless machines events
  fits : length bytes ≤ SCHEDULE_BYTES
  same : course_text other ≡ text
  ends : course_end other ≡ None

same_bytes : (a b : List ℕ) → Some a ≡ Some b → b ≡ a
same_bytes a b is = cc

module _ (work : Work) (sound : State → Type 0) (laws : ChosenWell work sound) (lines : Lines) (name : List ℕ)
    (machines : ℕ) (bytes : List ℕ) where
  -- of an event in front of others, where the text with it is long or not
  module _ (added : List Event) (w : World) (e : Event) (es : List Event) (rest behind : Course) where
    kept_event : (long : Bool) →
        (nat_lt SCHEDULE_BYTES (length (schedule_text Roundless machines (added ++ e ∷ []))) ≡ false →
        kept_bytes rest ≡ Some bytes → KeptAll (course_text rest) bytes machines ((added ++ e ∷ []) ++ es)
        behind) → nat_lt SCHEDULE_BYTES (length (schedule_text Roundless machines (added ++ e ∷ []))) ≡ long →
        kept_bytes (if long then Fails LongSchedule else told_event (by_worlds work lines) w e rest) ≡ Some
        bytes →
        KeptAll (course_text (if long then Fails LongSchedule else told_event (by_worlds work lines) w e rest))
        bytes machines (added ++ e ∷ es) (told_event (by_worlds work lines) w e behind)
    kept_event true more is kept = absurd (cc)
    kept_event false more is kept =
        let all = more is kept in record {
          bytes_are = all.bytes_are ∙ ap (schedule_text Roundless machines) (append_assoc added (e ∷ []) es);
          fits = all.fits;
          same = ap (λ (t : List ℕ). log_line lines w e ++ (round_lines work lines w e ++ t)) all.same;
          ends = all.ends;
        }

  kept_all : (added : List Event) (w : World) (es : List Event) (held count : ℕ) →
      IsReached work sound w × (length (schedule_text Roundless machines added) ≤ SCHEDULE_BYTES) →
      (all_possible work w es ≡ true) × (finished (after work w es) ≡ true) →
      kept_bytes (recorded (by_worlds work lines) name machines added w es) ≡ Some bytes →
      KeptAll (course_text (recorded (by_worlds work lines) name machines added w es)) bytes machines (added ++ es)
      (followed (by_worlds work lines) Roundless held count w es)
  kept_all added w [] held count here done kept =
      let none : lacking w ≡ None = ap (option_map lacks) ((laws.goes w here.0).missing.1 done.1) in
      let is : bytes ≡ schedule_text Roundless machines added = same_bytes _ _ kept in
      subst (λ (o : Option Missing). KeptAll
      (course_text (recorded (by_worlds work lines) name machines added w [])) bytes machines (added ++ [])
      (unless_lacking (option_map lack_of o) (told_end (by_worlds work lines) w))) (sym none)
      (record {
        bytes_are = is ∙ ap (schedule_text Roundless machines) (sym (append-nil added));
        fits = subst (λ (t : List ℕ). length t ≤ SCHEDULE_BYTES) (sym is) here.1;
        same = refl;
        ends = refl;
      })
  kept_all added w (e ∷ es) held count here done kept =
      let c = and_parts (possible w e) (all_possible work (step work w e) es) done.0 in
      let line = count + length (event_lines Roundless held e) in
      subst (λ (o : Option EventFault). KeptAll
      (course_text (recorded (by_worlds work lines) name machines added w (e ∷ es))) bytes machines (added ++ e ∷ es)
      (unless_refused (option_map (why_of e) o) line (told_event (by_worlds work lines) w e
      (followed (by_worlds work lines) Roundless (round_after held e) line (step work w e) es))))
      (sym (((laws.goes w here.0).played e).0 c.0))
      (kept_event added w e es _ _ (nat_lt SCHEDULE_BYTES (length (schedule_text Roundless machines (added ++ e ∷ []))))
      (λ short. kept_all (added ++ e ∷ []) (step work w e) es (round_after held e) line
      (laws.reach w e here.0 c.0, ltb-false _ _ short) (c.1, done.1)) refl kept)

-- ---- the law
module _ (work : Work) (sound : State → Type 0) (lawful : IsLawful work sound) (laws : ChosenWell work sound)
    (play : Play) (seed : ℕ) (name bytes : List ℕ) (course other : Course)
    (is : IsDrawnPlay work play seed name course) (kept : kept_bytes course ≡ Some bytes) where
  r : IsReached work sound is.first
  r = first_reached work sound play.program play.graph play.machines play.draws is.first is.is_first

  few : AreMachines play.machines
  few =
      let graph = play.graph in
      let run = is.is_first.of_graph in
      let count : length run.one.ends ≡ play.machines = ap length run.ends_are
      ∙ ends_length play.machines 0 (costs_of play.machines graph.vertices graph.list) in
      (subst (λ n. 1 ≤ n) count run.one.chunks.0, subst (λ n. n ≤ 64) count run.one.chunks.1)

  complete : (all_possible work is.first is.events ≡ true) × (finished (after work is.first is.events) ≡ true)
  complete = and_parts (all_possible work is.first is.events) (finished (after work is.first is.events))
      (laws.drawn is.first (generator_of seed) is.events r is.drawn)

  each : AllByRecursion IsEvent is.events
  each = events_told work sound lawful laws.reach is.first is.events r complete.0

  all : KeptAll (course_text (recorded (by_worlds work play.lines) name play.machines [] is.first is.events)) bytes
      play.machines is.events (followed (by_worlds work play.lines) Roundless 0 1 is.first is.events)
  all = kept_all work sound laws play.lines name play.machines bytes [] is.first is.events 0 1
      (r, (let small = begun_small play.machines few.1 in omega (arith, small))) complete
      (ap kept_bytes (sym is.course_is) ∙ kept)

  says : Says bytes play.machines is.events
  says = record {
    form = Roundless;
    is = record { some = few.0; few = few.1; each = each };
    fits = all.fits;
    spelled = all.bytes_are;
  }

  by_events : ByText bytes
      (λ machines form events. IsFollowedPlay work (record play { machines = machines }) form events) other →
      GainsTheSame course other
  unfolding says
  by_events (IsFaulty why real gives because) = absurd (no_fault bytes play.machines is.events says why real gives)
  by_events (Tells machines events told way) =
      let pair = stands_for_one bytes machines play.machines events is.events told says in
      let form = one_form bytes machines play.machines events is.events told says in
      let same : other ≡ followed (by_worlds work play.lines) Roundless 0 1 is.first is.events =
      way.course_is
      ∙ ap (λ (f : Form). followed (by_worlds work play.lines) f 0 1 way.first events) form
      ∙ ap (λ (list : List Event). followed (by_worlds work play.lines) Roundless 0 1 way.first list) pair.1
      ∙ ap (λ (w : World). followed (by_worlds work play.lines) Roundless 0 1 w is.events)
      (first_same work play.program play.graph play.machines play.draws way.first is.first
      (subst (λ (n : ℕ). IsFirstWorld work play.program play.graph n play.draws way.first) pair.0 way.is_first)
      is.is_first) in
      record {
        text = ap course_text same ∙ all.same ∙ ap course_text (sym is.course_is);
        ends = ap course_end same ∙ all.ends;
      }

  by_text : IsFollowed work (λ machines. record play { machines = machines }) bytes other → GainsTheSame course other
  by_text (ByEvents some way) = by_events way
  by_text (ByLinks none way) = absurd (no_fault bytes play.machines is.events says Header (λ e. cc) none)

pub replays_gain_the_same : (work : Work) (sound : State → Type 0) → IsLawful work sound → ChosenWell work sound →
    ReplaysGainTheSame work
replays_gain_the_same work sound lawful laws play seed name bytes course other is kept =
    by_text work sound lawful laws play seed name bytes course other is kept
