-- What a run of machines leaves of a sink, event by event.
use Rattle.std.proofs.Common.{◌≡◌, ◌↔◌, ℕ, ◌<◌, Bool, true, false, ◌&&◌, List, [], ◌∷◌, length, Option, Some, None, Ok, Err, refl, sym, ap, subst, ◌∙◌, arith, slice_get}
use Rattle.std.specs.Prelude.{◌==◌, if◌then◌else◌}
use Rattle.std.proofs.lemmas.Bool.{eqb-true, false≢true}
use Rattle.array_text.specs.Writes.{Writes}
use Rattle.circulant_plan.specs.declared.spot.Spot.{Spot}
use Rattle.circulant_plan.specs.declared.spot.Spot.TheVariants.{Tell, Judge, Begin, Scan, Close, Over}
use Rattle.cluster_run.proofs.SiteLists.{set_here}
use Rattle.outside.specs.declared.sink.SinkFault.{SinkFault}
use Rattle.schedule_laws.specs.Layout.{gone_lines, judged_lines, round_lines, table_of, told_in}
use Rattle.schedule_laws.specs.Texts.{told_lines}
use Rattle.symple_face.specs.Cluster.{IsPlainRun, World, all_possible, finished, go_at, plain_of, step}
use Rattle.symple_face.specs.State.{State}
use Rattle.symple_face.specs.Work.{Work}
use Rattle.command_steps.specs.Leaves.{Gained, Leaves, NotPut, Ran, WantsAtPut, after_text}
use Rattle.command_steps.specs.Notes.{Fault, NoMemory, NoWrite}
use Rattle.command_steps.specs.Orders.{Course, NoTask, Order, Plain, Play, Puts, Runs, Task, follows}
use Rattle.machine_runs.specs.PlayedEvents.{PutsLines, StopsInLines}
use Rattle.machine_runs.specs.PlainPlays.{GoesOn, IsFirstWorld, IsPlainPlay, course_from, ends_round, first_report, is_late_judge, judges_late, report_with}
use Rattle.command_steps.specs.declared.failure.Failure.{Failure}
use Rattle.command_steps.specs.declared.failure.Failure.TheVariants as failure
use Rattle.command_steps.specs.Faults.{fault_of}
use Rattle.command_steps.specs.Walks.{HandsOn, Plays}
use Rattle.command_steps.proofs.LeavesLaws.{unplayed}
use Rattle.command_steps.specs.States.{Held, Kept, Left, Outside, outside, sink_state}
use Rattle.command_steps.proofs.FlushLaws.{held_same}
use Rattle.symple_words.specs.declared.line.Lines.{Lines}
use Rattle.vert_base.specs.declared.message.Event.{Event}
use Rattle.vert_base.specs.declared.message.Event.TheVariants.{Go, Take}

-- ---- puts
module _ {S : Type 0} (held : S → Option (List ℕ)) (faults spare : S → ℕ) where
  abbrev of : S → Held
  of sink = sink_state held faults spare sink

  after_is : (old new : S) (text : List ℕ) → Writes held faults spare old new text (Ok tt) →
      of new ≡ after_text (of old) text (spare new)
  after_is old new text w = held_same (of old) (of new) _ (faults old) w.whole w.counted

  -- a text was put, and then the rest came
  module _ (old new : S) (text : List ℕ) where
    pub put_goes : Writes held faults spare old new text (Ok tt) →
        (next : Order) (shelf : Kept) (input : Left) (after : Outside) (outcome : Option Fault) →
        Leaves NoTask next (outside shelf (of new) input) after outcome →
        Leaves NoTask (Puts text next) (outside shelf (of old) input) after outcome
    put_goes w next shelf input after outcome rest =
        Gained (spare new) w.spared
        (subst (λ (h : Held). Leaves NoTask next (outside shelf h input) after outcome) (after_is old new text w)
        rest)

  -- a text could not be put
  pub put_stops : (old new : S) (text : List ℕ) (fault : SinkFault) →
      Writes held faults spare old new text (Err fault) →
      (next : Order) (shelf : Kept) (input : Left) →
      Leaves NoTask (Puts text next) (outside shelf (of old) input) (outside shelf (of new) input) (Some NoWrite)
  put_stops old new text fault w next shelf input =
      NotPut (record { part = w.part; rose = w.failed; sure = omega (arith, w.sure) }) refl refl

  -- memory was wanting before it
  pub put_wants : (sink : S) (text : List ℕ) (next : Order) (shelf : Kept) (input : Left) →
      Leaves NoTask (Puts text next) (outside shelf (of sink) input) (outside shelf (of sink) input) (Some NoMemory)
  put_wants sink text next shelf input = WantsAtPut (record { same = refl; memory = refl })

-- a text was put, as far as memory and the sink last
module _ (text : List ℕ) (old new : Held) where
  pub plays_goes : Plays text old new (Ok tt) →
      (next : Order) (shelf : Kept) (input : Left) (after : Outside) (outcome : Option Fault) →
      Leaves NoTask next (outside shelf new input) after outcome →
      Leaves NoTask (Puts text next) (outside shelf old input) after outcome
  plays_goes plays next shelf input after outcome rest =
      Gained new.spare plays.spared
      (subst (λ (h : Held). Leaves NoTask next (outside shelf h input) after outcome) plays.same rest)

pub plays_stops : (text : List ℕ) (old new : Held) (why : Failure) → Plays text old new (Err why) → (next : Order)
    (shelf : Kept) (input : Left) →
    Leaves NoTask (Puts text next) (outside shelf old input) (outside shelf new input) (Some (fault_of why))
plays_stops text old new failure.Write plays next shelf input = NotPut plays refl refl
plays_stops text old new failure.Memory plays next shelf input = WantsAtPut
    (record { same = ap (λ (h : Held). outside shelf h input) plays; memory = refl })
plays_stops text old new failure.Command plays next shelf input = absurd plays
plays_stops text old new failure.Words plays next shelf input = absurd plays
plays_stops text old new (failure.Load name) plays next shelf input = absurd plays
plays_stops text old new (failure.Program refusal) plays next shelf input = absurd plays
plays_stops text old new (failure.GraphLine code line) plays next shelf input = absurd plays
plays_stops text old new (failure.GraphByte code at) plays next shelf input = absurd plays
plays_stops text old new failure.ScheduleHeader plays next shelf input = absurd plays
plays_stops text old new (failure.ScheduleLine line) plays next shelf input = absurd plays
plays_stops text old new failure.LongSchedule plays next shelf input = absurd plays
plays_stops text old new (failure.Event line why) plays next shelf input = absurd plays
plays_stops text old new (failure.NotTaken name) plays next shelf input = absurd plays
plays_stops text old new (failure.NotGone machine) plays next shelf input = absurd plays
plays_stops text old new (failure.Part code) plays next shelf input = absurd plays
plays_stops text old new (failure.Message code at) plays next shelf input = absurd plays
plays_stops text old new (failure.EndsEarly name) plays next shelf input = absurd plays
plays_stops text old new failure.Input plays next shelf input = absurd plays

-- ---- the line of a judge
judge_is : (work : Work) (lines : Lines) (w : World) (s : State) (spot : Spot) → is_late_judge spot ≡ true →
    told_lines lines (told_in lines.reads work (step work w (Go 0)) (work.report (work.go s)))
    ≡ judged_lines work lines w s spot
judge_is work lines w s Tell late = absurd (false≢true late)
judge_is work lines w s (Judge r) late = sym (ap (λ (b : Bool). if b
    then told_lines lines (told_in lines.reads work (step work w (Go 0)) (work.report (work.go s))) else []) late)
judge_is work lines w s (Begin r) late = absurd (false≢true late)
judge_is work lines w s (Scan r t h) late = absurd (false≢true late)
judge_is work lines w s (Close r dense) late = absurd (false≢true late)
judge_is work lines w s Over late = absurd (false≢true late)

no_judge : (work : Work) (lines : Lines) (w : World) (s : State) (spot : Spot) → is_late_judge spot ≡ false →
    [] ≡ judged_lines work lines w s spot
no_judge work lines w s Tell early = refl
no_judge work lines w s (Judge r) early = sym (ap (λ (b : Bool). if b
    then told_lines lines (told_in lines.reads work (step work w (Go 0)) (work.report (work.go s))) else []) early)
no_judge work lines w s (Begin r) early = refl
no_judge work lines w s (Scan r t h) early = refl
no_judge work lines w s (Close r dense) early = refl
no_judge work lines w s Over early = refl

-- what machine 0 tells after its action
pub gone_report : (work : Work) (w : World) (s : State) → slice_get w.sites 0 ≡ Some s →
    first_report work (step work w (Go 0)) ≡ work.report (work.go s)
gone_report work w s at =
    ap (λ (o : Option State). first_report work (go_at work w 0 o)) at
    ∙ ap (report_with work) (set_here w.sites 0 (work.go s) (some w.sites at))
  where
    some : (sites : List State) → slice_get sites 0 ≡ Some s → 0 < length sites
    some [] at = cc
    some (x ∷ xs) at = omega arith

by_first : (work : Work) (lines : Lines) (w : World) (o : Option State) → slice_get w.sites 0 ≡ o → (b : Bool) →
    judges_late o ≡ b →
    (if b then told_lines lines (told_in lines.reads work (step work w (Go 0)) (first_report work (step work w (Go 0))))
    else []) ≡ gone_lines work lines w o
by_first work lines w None at true late = absurd (false≢true late)
by_first work lines w None at false early = refl
by_first work lines w (Some s) at true late =
    ap (λ r. told_lines lines (told_in lines.reads work (step work w (Go 0)) r)) (gone_report work w s at)
    ∙ judge_is work lines w s s.at.spot late
by_first work lines w (Some s) at false early = no_judge work lines w s s.at.spot early

by_machine : (work : Work) (lines : Lines) (w : World) (m : ℕ) (b : Bool) → (m == 0) ≡ b →
    (if b && judges_late (slice_get w.sites 0) then told_lines lines (told_in lines.reads work (step work w (Go m))
    (first_report work (step work w (Go m)))) else [])
    ≡ (if b then gone_lines work lines w (slice_get w.sites 0) else [])
by_machine work lines w m true is =
    let first : m ≡ 0 = eqb-true m 0 is in
    ap (λ (k : ℕ). if judges_late (slice_get w.sites 0) then told_lines lines (told_in lines.reads work
    (step work w (Go k)) (first_report work (step work w (Go k)))) else []) first
    ∙ by_first work lines w (slice_get w.sites 0) refl (judges_late (slice_get w.sites 0)) refl
by_machine work lines w m false is = refl

-- the lines of the round that an event ends are those that are put once it is played
pub round_is : (work : Work) (lines : Lines) (w : World) (e : Event) →
    (if ends_round w e then told_lines lines (told_in lines.reads work (step work w e) (first_report work
    (step work w e)))
    else []) ≡ round_lines work lines w e
round_is work lines w (Go m) = by_machine work lines w m (m == 0) refl
round_is work lines w (Take x) = refl

-- ---- a run from the next world on
same_event : (e d : Event) → Some e ≡ Some d → e ≡ d
same_event e d is = cc

pub plain_behind : (work : Work) (w : World) (e : Event) → finished w ≡ false → plain_of w ≡ Some e →
    ((es : List Event) × IsPlainRun work w es × (all_possible work w es ≡ true)) →
    (es : List Event) × IsPlainRun work (step work w e) es
plain_behind work w e more plain ([], ends, can) = absurd (false≢true (sym more ∙ ends))
plain_behind work w e more plain (d ∷ es, runs, can) = (
  es,
  subst (λ (x : Event). IsPlainRun work (step work w x) es) (sym (same_event e d (sym plain ∙ runs.1))) runs.2,
)

module _ (work : Work) (lines : Lines) (w : World) (e : Event) (more : finished w ≡ false)
    (plain : plain_of w ≡ Some e) where
  -- the event was played, and the run goes on behind it
  pub event_goes : (old new after : Held) (outcome : Option Fault) (v : World) → v ≡ step work w e →
      PutsLines work lines w e old new → GoesOn work lines v new after outcome →
      GoesOn work lines w old after outcome
  event_goes old new after outcome v is puts goes =
      let on = subst (λ (u : World). GoesOn work lines u new after outcome) is goes in record {
        events = e ∷ on.events;
        plain = (more, plain, on.plain);
        leaves = λ shelf input. puts (follows (course_from work lines (step work w e) on.events)) shelf input
            (outside shelf after input) outcome (on.leaves shelf input);
      }

  -- it was played up to a fault
  pub event_stops : (old new : Held) (fault : Fault) → StopsInLines work lines w e old new fault →
      ((es : List Event) × IsPlainRun work w es × (all_possible work w es ≡ true)) →
      GoesOn work lines w old new (Some fault)
  event_stops old new fault stops runs =
      let behind = plain_behind work w e more plain runs in record {
        events = e ∷ behind.0;
        plain = (more, plain, behind.1);
        leaves = λ shelf input. stops (follows (course_from work lines (step work w e) behind.0)) shelf input;
      }

-- where there is a plain event, the run isn't finished
pub not_finished : (w : World) (e : Event) → (Some e ≡ None) ↔ (finished w ≡ true) → finished w ≡ false
not_finished w e ends = by_test (finished w) refl
  where
    by_test : (b : Bool) → finished w ≡ b → finished w ≡ false
    by_test false is = is
    by_test true is = let none : Some e ≡ None = ends.1 is in cc

-- ---- the end, and the whole
-- the run is finished, and its table is put and handed on
pub table_goes : (work : Work) (lines : Lines) (w : World) (old new : Held) → finished w ≡ true →
    HandsOn (table_of work w) old new (Ok tt) → GoesOn work lines w old new None
table_goes work lines w old new ends put = record {
  events = [];
  plain = ends;
  leaves = λ shelf input. Gained new.spare put.spared
      (record { same = ap (λ (h : Held). outside shelf h input) put.same; fine = refl });
}

pub table_stops : (work : Work) (lines : Lines) (w : World) (old new : Held) (fault : SinkFault) → finished w ≡ true →
    HandsOn (table_of work w) old new (Err fault) → GoesOn work lines w old new (Some NoWrite)
table_stops work lines w old new fault ends put = record {
  events = [];
  plain = ends;
  leaves = λ shelf input. NotPut put refl refl;
}

-- a run from the first world of the machines of a graph's parts
pub run_plays :
    (courses : Task → Course → Type 0) (work : Work) (play : Play) →
    ((course : Course) → IsPlainPlay work play course → courses (Plain play) course) → (first : World) →
    IsFirstWorld work play.program play.graph play.machines play.draws first →
    (old new : Held) (outcome : Option Fault) → GoesOn work play.lines first old new outcome →
    (shelf : Kept) (input : Left) →
    Leaves courses (Runs (Plain play) follows) (outside shelf old input) (outside shelf new input) outcome
run_plays courses work play allowed first is_first old new outcome goes shelf input =
    let course = course_from work play.lines first goes.events in
    Ran course (allowed course (record {
      first = first;
      is_first = is_first;
      events = goes.events;
      plain = goes.plain;
      course_is = refl;
    })) (unplayed courses (follows course) _ _ outcome (goes.leaves shelf input))
