-- What renewing the text of a schedule leaves of a shelf.
use Rattle.std.proofs.Common.{◌≡◌, ◌⊎◌, inl, inr, ℕ, ◌+◌, ◌<◌, ◌≤◌, Bool, List, [], ◌∷◌, ◌++◌, drop, get_or, length, take, Some, None, Result, Ok, Err, refl, sym, ap, subst, ◌∙◌, arith, append_assoc, append-nil}
use Rattle.std.specs.Prelude.{if◌then◌else◌}
use Rattle.std.proofs.lemmas.Bool.{le-ltb, lt-ltb}
use Rattle.std.proofs.lemmas.List.{length-append, take-append-drop, take_more}
use Rattle.command_steps.specs.declared.failure.Failure.{Failure}
use Rattle.command_steps.specs.Faults.{fault_of}
use Rattle.command_steps.specs.Leaves.{Leaves, Ran, Refused, WantsAtRun}
use Rattle.command_steps.specs.Notes.{Fault, LongSchedule, NoMemory}
use Rattle.command_steps.specs.Orders.{Ends, Fails, IsOver, Keeps, Renewed, Runs, Stores, follows}
use Rattle.command_steps.specs.States.{Held, Kept, Left, Outside, outside}
use Rattle.command_steps.specs.Walks.{fault_after}
use Rattle.delivery_log.specs.declared.form.Form.{Form}
use Rattle.delivery_log.specs.declared.form.Form.TheVariants.{Roundless}
use Rattle.delivery_log.specs.Records.{Recording, Records}
use Rattle.delivery_log.specs.Says.{Says}
use Rattle.delivery_log.specs.ScheduleTexts.{event_lines, last_round, schedule_text, text_of}
use Rattle.delivery_log.proofs.ReadLaws.{text_more}
use Rattle.symple_face.specs.Work.{Work}
use Rattle.command_steps.specs.FileWalks.{StoresFile}
use Rattle.symple_run.specs.FileWalks.{BadText, NotRead, WantsToRead}
use Rattle.symple_run.specs.Followed.{IsFaulty, Tells, renewed}
use Rattle.symple_run.specs.Played.{IsPlayed}
use Rattle.command_steps.proofs.FileLaws.{store_goes, store_stops}
use Rattle.vert_base.specs.declared.limits.TheConstants.{SCHEDULE_BYTES}
use Rattle.vert_base.specs.declared.message.Event.{Event}

-- the text of more events is no shorter
pub longer : (form : Form) (machines : ℕ) (es fs : List Event) →
    length (schedule_text form machines es) ≤ length (schedule_text form machines (es ++ fs))
longer form machines es [] =
    let same = ap (λ (list : List Event). length (schedule_text form machines list)) (append-nil es) in
    omega (arith, same)
longer form machines es (f ∷ fs) =
    let one = ap length (text_more form machines es f)
    ∙ length-append (schedule_text form machines es) (text_of (event_lines form (last_round 0 es) f)) in
    let rest = longer form machines (es ++ f ∷ []) fs in
    let same = ap (λ (list : List Event). length (schedule_text form machines list)) (append_assoc es (f ∷ []) fs) in
    omega (arith, one, rest, same)

-- where the text of the first events and one more is too long, so is that of all
pub long_whole : (machines i : ℕ) (es : List Event) (d : Event) → i < length es → (fault : Fault) →
    (fault ≡ NoMemory) ⊎ ((fault ≡ LongSchedule) × (SCHEDULE_BYTES
    < length (schedule_text Roundless machines (take i es ++ get_or es i d ∷ [])))) →
    (fault ≡ NoMemory) ⊎ ((fault ≡ LongSchedule) × (SCHEDULE_BYTES < length (schedule_text Roundless machines es)))
long_whole machines i es d below fault (inl wants) = inl wants
long_whole machines i es d below fault (inr long) =
    let size : List Event → ℕ = λ list. length (schedule_text Roundless machines list) in
    let more = ap size (take_more es i d below) in
    let whole = ap size (take-append-drop (i + 1) es) in
    let le = longer Roundless machines (take (i + 1) es) (drop (i + 1) es) in
    inr (long.0, omega (arith, long.1, more, whole, le))

-- the same of equal events
pub long_or_wants : (machines : ℕ) (es fs : List Event) → es ≡ fs → (fault : Fault) →
    (fault ≡ NoMemory) ⊎ ((fault ≡ LongSchedule) × (SCHEDULE_BYTES < length (schedule_text Roundless machines es))) →
    (fault ≡ NoMemory) ⊎ ((fault ≡ LongSchedule) × (SCHEDULE_BYTES < length (schedule_text Roundless machines fs)))
long_or_wants machines es fs same fault = subst (λ (list : List Event). (fault ≡ NoMemory)
    ⊎ ((fault ≡ LongSchedule) × (SCHEDULE_BYTES < length (schedule_text Roundless machines list)))) same

module _ (work : Work) (text target : List ℕ) where
  ends : (bytes : List ℕ) (old new : Kept) (result : Result (Unit {0}) Failure) → StoresFile target bytes old new
      result →
      (out : Held) (input : Left) →
      Leaves (IsPlayed work) (Stores target bytes Ends) (outside old out input) (outside new out input)
      (fault_after result)
  ends bytes old new (Ok done) keeps out input = store_goes (IsPlayed work) target bytes old new keeps Ends out input
      (outside new out input) None (record { same = refl; fine = refl })
  ends bytes old new (Err why) keeps out input =
      store_stops (IsPlayed work) target bytes old new (fault_of why) keeps Ends out input

  module _ (machines : ℕ) (events : List Event) (says : Says text machines events) where
    -- all events were added, and the text was kept, or could not be
    pub renew_goes : (recording : Recording) → Records recording machines events → (old new : Kept)
        (result : Result (Unit {0}) Failure) → StoresFile target recording.text old new result → (out : Held)
        (input : Left) → Leaves (IsPlayed work) (Runs (Renewed text target) follows) (outside old out input)
        (outside new out input) (fault_after result)
    renew_goes recording is old new result keeps out input =
        let fits : length (schedule_text Roundless machines events) ≤ SCHEDULE_BYTES =
        subst (λ (t : List ℕ). length t ≤ SCHEDULE_BYTES) is.spelled is.fits in
        Ran (renewed target machines events) (Tells machines events says refl)
        (subst (λ (b : Bool). Leaves (IsPlayed work) (follows
        (if b then Fails LongSchedule else Keeps target (schedule_text Roundless machines events) IsOver))
        (outside old out input) (outside new out input) (fault_after result))
        (sym (le-ltb SCHEDULE_BYTES (length (schedule_text Roundless machines events)) fits))
        (subst (λ (t : List ℕ). Leaves (IsPlayed work) (Stores target t Ends) (outside old out input)
        (outside new out input) (fault_after result)) is.spelled (ends recording.text old new result keeps out input)))

    -- the text would pass its limit, or memory was wanting to write it
    pub renew_stops : (fault : Fault) → (fault ≡ NoMemory) ⊎ ((fault ≡ LongSchedule) × (SCHEDULE_BYTES
        < length (schedule_text Roundless machines events))) → (w : Outside) →
        Leaves (IsPlayed work) (Runs (Renewed text target) follows) w w (Some fault)
    renew_stops fault (inl wants) w = WantsAtRun (record { same = refl; memory = ap Some wants })
    renew_stops fault (inr long) w =
        Ran (renewed target machines events) (Tells machines events says refl)
        (subst (λ (b : Bool). Leaves (IsPlayed work) (follows
        (if b then Fails LongSchedule else Keeps target (schedule_text Roundless machines events) IsOver)) w w
        (Some fault)) (sym (lt-ltb SCHEDULE_BYTES (length (schedule_text Roundless machines events)) long.1))
        (Refused (record { same = refl; fault_is = ap Some long.0 })))

  -- the text says no machines and events
  pub renew_faulty : (fault : Fault) → NotRead text fault → (w : Outside) →
      Leaves (IsPlayed work) (Runs (Renewed text target) follows) w w (Some fault)
  renew_faulty fault (BadText why real gives is) w = Ran _ (IsFaulty why real gives refl)
      (Refused (record { same = refl; fault_is = ap Some is }))
  renew_faulty fault (WantsToRead is) w = WantsAtRun (record { same = refl; memory = ap Some is })
