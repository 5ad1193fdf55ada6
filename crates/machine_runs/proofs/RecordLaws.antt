-- What recording leaves of the outside, event by event, whatever the events are.
use Rattle.std.proofs.Common.{◌≡◌, ◌⊎◌, inl, inr, ℕ, ◌<◌, ◌≤◌, Bool, true, false, List, [], ◌∷◌, ◌++◌, length, Option, Some, None, Ok, Err, refl, sym, ap, subst}
use Rattle.std.specs.Prelude.{if◌then◌else◌, nat_lt}
use Rattle.std.proofs.lemmas.Bool.{le-ltb, lt-ltb}
use Rattle.command_steps.specs.declared.failure.Failure.{Failure}
use Rattle.command_steps.specs.Faults.{fault_of}
use Rattle.command_steps.specs.FileWalks.{StoresFile}
use Rattle.command_steps.specs.Leaves.{Gained, Leaves, NotPut, Refused, WantsAtPut, WantsAtRefusal}
use Rattle.command_steps.specs.Notes.{Fault, LongSchedule, NoMemory, NoWrite}
use Rattle.command_steps.specs.Orders.{Course, Ends, Fails, NoTask, Puts, Stores, follows}
use Rattle.command_steps.specs.Walks.{HandsOn}
use Rattle.command_steps.specs.States.{Held, Kept, Left, Outside, outside}
use Rattle.command_steps.proofs.FileLaws.{store_goes, store_stops}
use Rattle.outside.specs.declared.sink.SinkFault.{SinkFault}
use Rattle.rand_pcg.specs.Lcg.{Lcg}
use Rattle.machine_runs.specs.PlayedEvents.{PutsEvent, StopsAtEvent}
use Rattle.machine_runs.specs.RecordWalks.{HasRecorded, RecordsOn, RecordsTo}
use Rattle.machine_runs.specs.Tellings.{Telling, recorded_as, told_event}
use Rattle.vert_base.specs.declared.limits.TheConstants.{SCHEDULE_BYTES}

module _ {X E : Type 0} (t : Telling X E) (text : List E → List ℕ) (IsDrawn : List E → X → Lcg → List E → Type 0)
    (name : List ℕ) where
  -- ---- an event, where those behind it are drawn ones with it
  module _ (added : List E) (x : X) (g h : Lcg) (e : E)
      (drawn : (es : List E) → IsDrawn (added ++ e ∷ []) (t.behind x e) h es → IsDrawn added x g (e ∷ es)) where
    abbrev rest_of : List E → Course
    rest_of es = recorded_as t text name (added ++ e ∷ []) (t.behind x e) es

    abbrev course_if : Bool → List E → Course
    course_if long es = if long then Fails LongSchedule else told_event t x e (rest_of es)

    -- the event fits the text and was played, and the recording goes on behind it
    pub record_goes : length (text (added ++ e ∷ [])) ≤ SCHEDULE_BYTES → (old new : Held) → PutsEvent t x e old new →
        (y : X) → y ≡ t.behind x e → RecordsTo t text IsDrawn name added x g old (added ++ e ∷ []) y h new
    record_goes fits old new puts y is shelf input after outcome rest =
        let on = subst (λ (u : X). RecordsOn t text IsDrawn name (added ++ e ∷ []) u h (outside shelf new input) after
        outcome) is rest in
        record {
          events = e ∷ on.events;
          drawn = drawn on.events on.drawn;
          leaves = subst (λ (b : Bool). Leaves NoTask (follows (course_if b on.events)) (outside shelf old input) after
              outcome) (sym (le-ltb SCHEDULE_BYTES (length (text (added ++ e ∷ []))) fits))
              (puts (follows (rest_of on.events)) shelf input after outcome on.leaves);
        }

    module _ (behind : (es : List E) × IsDrawn (added ++ e ∷ []) (t.behind x e) h es) where
      stops_with : (old new : Outside) (fault : Fault) →
          Leaves NoTask (follows (course_if (nat_lt SCHEDULE_BYTES (length (text (added ++ e ∷ [])))) behind.0)) old new
          (Some fault) → RecordsOn t text IsDrawn name added x g old new (Some fault)
      stops_with old new fault leaves =
          record { events = e ∷ behind.0; drawn = drawn behind.0 behind.1; leaves = leaves }

      -- it was played up to a fault
      pub record_stops : length (text (added ++ e ∷ [])) ≤ SCHEDULE_BYTES → (old new : Held) (fault : Fault) →
          StopsAtEvent t x e old new fault → (shelf : Kept) (input : Left) →
          RecordsOn t text IsDrawn name added x g (outside shelf old input) (outside shelf new input) (Some fault)
      record_stops fits old new fault stops shelf input =
          stops_with (outside shelf old input) (outside shelf new input) fault
          (subst (λ (b : Bool). Leaves NoTask (follows (course_if b behind.0)) (outside shelf old input)
          (outside shelf new input) (Some fault)) (sym (le-ltb SCHEDULE_BYTES (length (text (added ++ e ∷ []))) fits))
          (stops (follows (rest_of behind.0)) shelf input))

      wants_either : (b : Bool) (w : Outside) → Leaves NoTask (follows (course_if b behind.0)) w w (Some NoMemory)
      wants_either true w = WantsAtRefusal (record { same = refl; memory = refl })
      wants_either false w = WantsAtPut (record { same = refl; memory = refl })

      -- memory was wanting to add it, or the text would pass its limit
      pub add_stops : (fault : Fault) →
          (fault ≡ NoMemory) ⊎ ((fault ≡ LongSchedule) × (SCHEDULE_BYTES < length (text (added ++ e ∷ [])))) →
          (w : Outside) → RecordsOn t text IsDrawn name added x g w w (Some fault)
      add_stops fault (inl wants) w =
          stops_with w w fault
          (subst (λ (f : Fault). Leaves NoTask (follows (course_if
          (nat_lt SCHEDULE_BYTES (length (text (added ++ e ∷ [])))) behind.0)) w w (Some f)) (sym wants)
          (wants_either _ w))
      add_stops fault (inr long) w =
          stops_with w w fault
          (subst (λ (b : Bool). Leaves NoTask (follows (course_if b behind.0)) w w (Some fault))
          (sym (lt-ltb SCHEDULE_BYTES (length (text (added ++ e ∷ []))) long.1))
          (Refused (record { same = refl; fault_is = ap Some long.0 })))

  -- ---- the end: the text is kept, and then the table is put
  module _ (Has : List E → Type 0) (x y : X) (g h : Lcg) (old mid : Held)
      (has : HasRecorded t text IsDrawn Has x g old y h mid) (ends : IsDrawn has.added y h []) (bytes : List ℕ)
      (same : bytes ≡ text has.added) (shelf new : Kept) (input : Left) where
    record_ends : (after : Outside) (outcome : Option Fault) →
        Leaves NoTask (Stores name bytes (Puts (t.table y) Ends)) (outside shelf mid input) after outcome →
        RecordsOn t text IsDrawn name [] x g (outside shelf old input) after outcome
    record_ends after outcome leaves =
        has.goes name shelf input after outcome (record {
          events = [];
          drawn = ends;
          leaves = subst (λ (b : List ℕ). Leaves NoTask (Stores name b (Puts (t.table y) Ends))
              (outside shelf mid input) after outcome) same leaves;
        })

    -- the text could not be kept
    pub unkept : (why : Failure) → StoresFile name bytes shelf new (Err why) →
        RecordsOn t text IsDrawn name [] x g (outside shelf old input) (outside new mid input) (Some (fault_of why))
    unkept why keeps = record_ends (outside new mid input) (Some (fault_of why))
        (store_stops NoTask name bytes shelf new (fault_of why) keeps (Puts (t.table y) Ends) mid input)

    module _ (keeps : StoresFile name bytes shelf new (Ok tt)) (last : Held) where
      behind_store : (outcome : Option Fault) →
          Leaves NoTask (Puts (t.table y) Ends) (outside new mid input) (outside new last input) outcome →
          RecordsOn t text IsDrawn name [] x g (outside shelf old input) (outside new last input) outcome
      behind_store outcome leaves = record_ends (outside new last input) outcome
          (store_goes NoTask name bytes shelf new keeps (Puts (t.table y) Ends) mid input (outside new last input)
          outcome
          leaves)

      -- it was, and the table was put, or could not be
      pub kept_put : HandsOn (t.table y) mid last (Ok tt) →
          RecordsOn t text IsDrawn name [] x g (outside shelf old input) (outside new last input) None
      kept_put put = behind_store None (Gained last.spare put.spared
          (record { same = ap (λ (o : Held). outside new o input) put.same; fine = refl }))

      pub kept_unput : (fault : SinkFault) → HandsOn (t.table y) mid last (Err fault) →
          RecordsOn t text IsDrawn name [] x g (outside shelf old input) (outside new last input) (Some NoWrite)
      kept_unput fault put = behind_store (Some NoWrite) (NotPut put refl refl)
