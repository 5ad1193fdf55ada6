-- What recording leaves of the outside, event by event.
use Rattle.std.proofs.Common.{◌≡◌, ◌⊎◌, inl, inr, ℕ, ◌<◌, ◌≤◌, Bool, true, false, List, [], ◌∷◌, ◌++◌, length, Option, Some, None, Ok, Err, refl, sym, ap, subst, ◌∙◌}
use Rattle.std.specs.Prelude.{if◌then◌else◌, nat_lt}
use Rattle.std.proofs.lemmas.Bool.{false≢true, le-ltb, lt-ltb}
use Rattle.command_steps.specs.declared.failure.Failure.{Failure}
use Rattle.command_steps.specs.Faults.{fault_of}
use Rattle.command_steps.specs.Leaves.{Gained, Leaves, NotPut, Ran, Refused, WantsAtPut, WantsAtRefusal}
use Rattle.command_steps.specs.Notes.{Fault, LongSchedule, NoMemory, NoWrite}
use Rattle.command_steps.specs.Orders.{Course, Drawn, Ends, Fails, NoTask, Play, Puts, Runs, Stores, follows}
use Rattle.command_steps.specs.Walks.{HandsOn}
use Rattle.command_steps.specs.States.{Held, Kept, Left, Outside, outside}
use Rattle.command_steps.proofs.LeavesLaws.{unplayed}
use Rattle.delivery_log.specs.Choosers.{IsDrawnRun, behind_word, drawn_of, generator_of}
use Rattle.delivery_log.specs.Records.{Recording, Records}
use Rattle.delivery_log.specs.ScheduleTexts.{schedule_text}
use Rattle.delivery_log.specs.declared.form.Form.TheVariants.{Roundless}
use Rattle.outside.specs.declared.sink.SinkFault.{SinkFault}
use Rattle.rand_pcg.specs.Lcg.{Lcg}
use Rattle.schedule_laws.specs.Layout.{table_of}
use Rattle.symple_face.specs.Cluster.{World, finished, step}
use Rattle.symple_face.specs.Work.{Work}
use Rattle.command_steps.specs.FileWalks.{StoresFile}
use Rattle.machine_runs.specs.PlainPlays.{IsFirstWorld}
use Rattle.symple_run.specs.Played.{IsPlayed}
use Rattle.machine_runs.specs.PlayedEvents.{PutsLines, StopsInLines}
use Rattle.symple_run.specs.RecordWalks.{HasRecorded, Recordings, RecordsOn, RecordsTo}
use Rattle.machine_runs.specs.Tellings.{by_worlds, recorded, told_event}
use Rattle.command_steps.proofs.FileLaws.{store_goes, store_stops}
use Rattle.symple_words.specs.declared.line.Lines.{Lines}
use Rattle.vert_base.specs.declared.limits.TheConstants.{SCHEDULE_BYTES}
use Rattle.vert_base.specs.declared.message.Event.{Event}

same_drawn : (e d : Event) → Some e ≡ Some d → e ≡ d
same_drawn e d is = cc

-- the drawn events from the next world on
pub drawn_behind : (work : Work) (w : World) (g : Lcg) (e : Event) → finished w ≡ false → drawn_of g w ≡ Some e →
    ((es : List Event) × IsDrawnRun work w g es) → (es : List Event) × IsDrawnRun work (step work w e) (behind_word g)
    es
drawn_behind work w g e more drawn ([], ends) = absurd (false≢true (sym more ∙ ends))
drawn_behind work w g e more drawn (d ∷ es, runs) = (
  es,
  subst (λ (x : Event). IsDrawnRun work (step work w x) (behind_word g) es) (sym (same_drawn e d (sym drawn ∙ runs.1)))
      runs.2,
)

module _ (run : Recordings) (added : List Event) (w : World) (g : Lcg) (e : Event) where
  abbrev rest_of : List Event → Course
  rest_of es = recorded (by_worlds run.work run.lines) run.name run.machines (added ++ e ∷ []) (step run.work w e) es

  abbrev course_if : Bool → List Event → Course
  course_if long es = if long then Fails LongSchedule else told_event (by_worlds run.work run.lines) w e (rest_of es)

  module _ (more : finished w ≡ false) (drawn : drawn_of g w ≡ Some e) where
    -- the event fits the text and was played, and the recording goes on behind it
    pub record_goes : length (schedule_text Roundless run.machines (added ++ e ∷ [])) ≤ SCHEDULE_BYTES →
        (old new : Held) → PutsLines run.work run.lines w e old new → (v : World) → v ≡ step run.work w e →
        RecordsTo run added w g old (added ++ e ∷ []) v (behind_word g) new
    record_goes fits old new puts v is shelf input after outcome rest =
        let on = subst (λ (u : World). RecordsOn run (added ++ e ∷ []) u (behind_word g) (outside shelf new input) after
        outcome) is rest in
        record {
          events = e ∷ on.events;
          drawn = (more, drawn, on.drawn);
          leaves = subst (λ (b : Bool). Leaves NoTask (follows (course_if b on.events)) (outside shelf old input) after
              outcome) (sym (le-ltb SCHEDULE_BYTES (length (schedule_text Roundless run.machines (added ++ e ∷ [])))
              fits))
              (puts (follows (rest_of on.events)) shelf input after outcome on.leaves);
        }

    module _ (behind : (es : List Event) × IsDrawnRun run.work (step run.work w e) (behind_word g) es) where
      stops_with : (old new : Outside) (fault : Fault) →
          Leaves NoTask (follows (course_if
          (nat_lt SCHEDULE_BYTES (length (schedule_text Roundless run.machines (added ++ e ∷ [])))) behind.0)) old new
          (Some fault) → RecordsOn run added w g old new (Some fault)
      stops_with old new fault leaves =
          record { events = e ∷ behind.0; drawn = (more, drawn, behind.1); leaves = leaves }

      -- it was played up to a fault
      pub record_stops : length (schedule_text Roundless run.machines (added ++ e ∷ [])) ≤ SCHEDULE_BYTES →
          (old new : Held) (fault : Fault) → StopsInLines run.work run.lines w e old new fault →
          (shelf : Kept) (input : Left) →
          RecordsOn run added w g (outside shelf old input) (outside shelf new input) (Some fault)
      record_stops fits old new fault stops shelf input =
          stops_with (outside shelf old input) (outside shelf new input) fault
          (subst (λ (b : Bool). Leaves NoTask (follows (course_if b behind.0)) (outside shelf old input)
          (outside shelf new input) (Some fault))
          (sym (le-ltb SCHEDULE_BYTES (length (schedule_text Roundless run.machines (added ++ e ∷ []))) fits))
          (stops (follows (rest_of behind.0)) shelf input))

      wants_either : (b : Bool) (w' : Outside) → Leaves NoTask (follows (course_if b behind.0)) w' w' (Some NoMemory)
      wants_either true w' = WantsAtRefusal (record { same = refl; memory = refl })
      wants_either false w' = WantsAtPut (record { same = refl; memory = refl })

      -- memory was wanting to add it, or the text would pass its limit
      pub add_stops : (fault : Fault) → (fault ≡ NoMemory) ⊎ ((fault ≡ LongSchedule) × (SCHEDULE_BYTES
          < length (schedule_text Roundless run.machines (added ++ e ∷ [])))) → (w' : Outside) →
          RecordsOn run added w g w' w' (Some fault)
      add_stops fault (inl wants) w' =
          stops_with w' w' fault
          (subst (λ (f : Fault). Leaves NoTask (follows (course_if
          (nat_lt SCHEDULE_BYTES (length (schedule_text Roundless run.machines (added ++ e ∷ [])))) behind.0)) w' w'
          (Some f)) (sym wants) (wants_either _ w'))
      add_stops fault (inr long) w' =
          stops_with w' w' fault
          (subst (λ (b : Bool). Leaves NoTask (follows (course_if b behind.0)) w' w' (Some fault))
          (sym (lt-ltb SCHEDULE_BYTES (length (schedule_text Roundless run.machines (added ++ e ∷ []))) long.1))
          (Refused (record { same = refl; fault_is = ap Some long.0 })))

-- what a recorder has is within the limit
pub text_fits : (recording : Recording) (machines : ℕ) (events : List Event) → Records recording machines events →
    length (schedule_text Roundless machines events) ≤ SCHEDULE_BYTES
text_fits recording machines events is = subst (λ (t : List ℕ). length t ≤ SCHEDULE_BYTES) is.spelled is.fits

-- ---- the whole
-- a recording from the first world of the machines of a graph's parts
pub run_records :
    (work : Work) (play : Play) (seed : ℕ) (name : List ℕ) (first : World) →
    IsFirstWorld work play.program play.graph play.machines play.draws first →
    (old new : Outside) (outcome : Option Fault) →
    RecordsOn (record { work = work; lines = play.lines; name = name; machines = play.machines }) [] first
    (generator_of seed) old new outcome →
    Leaves (IsPlayed work) (Runs (Drawn play seed name) follows) old new outcome
run_records work play seed name first is_first old new outcome on =
    let course = recorded (by_worlds work play.lines) name play.machines [] first on.events in
    Ran course (record {
      first = first;
      is_first = is_first;
      events = on.events;
      drawn = on.drawn;
      course_is = refl;
    }) (unplayed (IsPlayed work) (follows course) old new outcome on.leaves)

-- behind the last event the text is kept, and then the table is put
pub record_ends :
    (work : Work) (lines : Lines) (machines : ℕ) (w : World) (g h : Lcg) (old mid : Held) (v : World)
    (recording : Recording) (has : HasRecorded work lines machines w g old v h mid recording) → finished v ≡ true →
    (name : List ℕ) (shelf : Kept) (input : Left) (after : Outside) (outcome : Option Fault) →
    Leaves NoTask (Stores name recording.text (Puts (table_of work v) Ends)) (outside shelf mid input) after outcome →
    RecordsOn (record { work = work; lines = lines; name = name; machines = machines }) [] w g (outside shelf old input)
    after outcome
record_ends work lines machines w g h old mid v recording has ends name shelf input after outcome leaves =
    has.goes name shelf input after outcome (record {
      events = [];
      drawn = ends;
      leaves = subst (λ (text : List ℕ). Leaves NoTask (Stores name text (Puts (table_of work v) Ends))
          (outside shelf mid input) after outcome) has.records.spelled leaves;
    })

module _ (work : Work) (lines : Lines) (machines : ℕ) (w : World) (g h : Lcg) (old mid : Held) (v : World)
    (recording : Recording) (has : HasRecorded work lines machines w g old v h mid recording) (ends : finished v ≡ true)
    (name bytes : List ℕ) (same : bytes ≡ recording.text) (shelf new : Kept) (input : Left) where
  abbrev run : Recordings
  run = record { work = work; lines = lines; name = name; machines = machines }

  -- the text could not be kept
  pub unkept : (why : Failure) → StoresFile name bytes shelf new (Err why) →
      RecordsOn run [] w g (outside shelf old input) (outside new mid input) (Some (fault_of why))
  unkept why keeps =
      record_ends work lines machines w g h old mid v recording has ends name shelf input (outside new mid input)
      (Some (fault_of why))
      (store_stops NoTask name recording.text shelf new (fault_of why)
      (subst (λ (t : List ℕ). StoresFile name t shelf new (Err why)) same keeps) (Puts (table_of work v) Ends) mid
      input)

  module _ (keeps : StoresFile name bytes shelf new (Ok tt)) (last : Held) where
    behind : (outcome : Option Fault) →
        Leaves NoTask (Puts (table_of work v) Ends) (outside new mid input) (outside new last input) outcome →
        RecordsOn run [] w g (outside shelf old input) (outside new last input) outcome
    behind outcome leaves =
        record_ends work lines machines w g h old mid v recording has ends name shelf input (outside new last input)
        outcome
        (store_goes NoTask name recording.text shelf new
        (subst (λ (t : List ℕ). StoresFile name t shelf new (Ok tt)) same keeps) (Puts (table_of work v) Ends) mid input
        (outside new last input) outcome leaves)

    -- it was, and the table was put, or could not be
    pub kept_put : HandsOn (table_of work v) mid last (Ok tt) →
        RecordsOn run [] w g (outside shelf old input) (outside new last input) None
    kept_put put = behind None (Gained last.spare put.spared
        (record { same = ap (λ (o : Held). outside new o input) put.same; fine = refl }))

    pub kept_unput : (fault : SinkFault) → HandsOn (table_of work v) mid last (Err fault) →
        RecordsOn run [] w g (outside shelf old input) (outside new last input) (Some NoWrite)
    kept_unput fault put = behind (Some NoWrite) (NotPut put refl refl)
