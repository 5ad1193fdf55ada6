-- What following a schedule leaves of the outside, event by event.
use Rattle.std.proofs.Common.{◌≡◌, ◌≢◌, ℕ, ◌+◌, ◌<◌, ◌^◌, List, [], ◌∷◌, ◌++◌, length, Option, Some, None, refl, sym, ap, subst, ◌∙◌, arith, append-nil}
use Rattle.std.specs.Prelude.{option_map}
use Rattle.std.proofs.lemmas.List.{length-append}
use Rattle.cluster_run.specs.declared.fault.EventFault.{EventFault}
use Rattle.cluster_run.specs.Faults.{fault_of}
use Rattle.command_steps.specs.Leaves.{Leaves, Ran, Refused, WantsAtPut, WantsAtRefusal, WantsAtRun}
use Rattle.command_steps.specs.Notes.{BadEvent, BadHeader, Fault, NoMemory}
use Rattle.command_steps.specs.Orders.{Course, Followed, NoTask, Play, Runs, Task, follows}
use Rattle.command_steps.specs.States.{Held, Kept, Left, Outside, outside}
use Rattle.command_steps.proofs.LeavesLaws.{unplayed}
use Rattle.delivery_log.specs.declared.form.Form.{Form}
use Rattle.delivery_log.specs.declared.fault.ScheduleFault.TheVariants.{Header}
use Rattle.delivery_log.specs.Says.{HasNoHeader, Says}
use Rattle.delivery_log.specs.ScheduleTexts.{event_lines, events_lines, round_after, schedule_lines, text_of}
use Rattle.delivery_log.proofs.PairLaws.{has_one_fault, small_machines}
use Rattle.delivery_log.proofs.ReadLaws.{lines_small}
use Rattle.link_core.specs.declared.event.LinkEvent.{LinkEvent}
use Rattle.link_core.specs.LinkSays.{SaysLinks}
use Rattle.link_runs.specs.LinkedPlays.{Goes, IsLinkedPlay}
use Rattle.symple_face.specs.Cluster.{World, step}
use Rattle.symple_face.specs.Work.{Work}
use Rattle.symple_run.specs.FileWalks.{BadLinkText, BadText, NoLinksRead, NotRead, WantsToRead, WantsToReadLinks}
use Rattle.symple_run.specs.Followed.{ByEvents, ByLinkText, ByLinks, IsFaulty, IsFollowedPlay, LinksAreFaulty, Tells, TellsLinks, text_fault}
use Rattle.symple_run.specs.FollowWalks.{FollowsTo, FollowsUp, Place, PlaysListed, StopsListed, course_at}
use Rattle.symple_run.proofs.TextTasks.{no_fault}
use Rattle.machine_runs.specs.PlainPlays.{IsFirstWorld}
use Rattle.symple_run.specs.Played.{IsPlayed}
use Rattle.machine_runs.specs.PlayedEvents.{PutsLines, StopsInLines}
use Rattle.machine_runs.specs.Tellings.{by_worlds, followed, told_event, unless_refused, why_of}
use Rattle.symple_words.specs.declared.line.Lines.{Lines}
use Rattle.symple_words.specs.Ranges.{AreMachines}
use Rattle.vert_base.specs.declared.message.Event.{Event}

-- ---- one event
module _ (work : Work) (lines : Lines) (w : World) (e : Event) (line : ℕ) where
  abbrev course_by : Option EventFault → Course → Course
  course_by fault rest = unless_refused (option_map (why_of e) fault) line (told_event (by_worlds work lines) w e rest)

  -- a possible event was played
  pub listed_goes : fault_of w e ≡ None → (old new : Held) → PutsLines work lines w e old new →
      PlaysListed work lines w e line old new
  listed_goes can old new puts = λ rest shelf input after outcome leaves.
      subst (λ (o : Option EventFault). Leaves NoTask (follows (course_by o rest)) (outside shelf old input) after
      outcome)
      (sym can) (puts (follows rest) shelf input after outcome leaves)

  -- it was played up to a fault
  pub listed_stops : fault_of w e ≡ None → (old new : Held) (fault : Fault) →
      StopsInLines work lines w e old new fault → StopsListed work lines w e line old new fault
  listed_stops can old new fault stops = λ rest shelf input.
      subst (λ (o : Option EventFault). Leaves NoTask (follows (course_by o rest)) (outside shelf old input)
      (outside shelf new input) (Some fault)) (sym can) (stops (follows rest) shelf input)

  -- an event that can't happen
  pub listed_refused : (why : EventFault) → fault_of w e ≡ Some why → (old : Held) →
      StopsListed work lines w e line old old (BadEvent line (why_of e why))
  listed_refused why is old = λ rest shelf input.
      subst (λ (o : Option EventFault). Leaves NoTask (follows (course_by o rest)) (outside shelf old input)
      (outside shelf old input) (Some (BadEvent line (why_of e why)))) (sym is)
      (Refused (record { same = refl; fault_is = refl }))

  wants_either : (o : Option EventFault) (rest : Course) (w' : Outside) →
      Leaves NoTask (follows (course_by o rest)) w' w' (Some NoMemory)
  wants_either None rest w' = WantsAtPut (record { same = refl; memory = refl })
  wants_either (Some why) rest w' = WantsAtRefusal (record { same = refl; memory = refl })

  -- memory was wanting before it
  pub listed_wants : (old : Held) → StopsListed work lines w e line old old NoMemory
  listed_wants old = λ rest shelf input. wants_either (fault_of w e) rest (outside shelf old input)

-- ---- event by event
-- the lines of an event and of those behind it
pub lines_left : (form : Form) (held : ℕ) (e : Event) (es : List Event) → length (events_lines form held (e ∷ es))
    ≡ length (event_lines form held e) + length (events_lines form (round_after held e) es)
lines_left form held e es = length-append (event_lines form held e) (events_lines form (round_after held e) es)

module _ (work : Work) (lines : Lines) (form : Form) (from : Place) (old : Held) (held count line : ℕ) (w : World)
    (e : Event) (es left : List Event) (is_left : left ≡ e ∷ es)
    (is_line : line ≡ count + length (event_lines form held e)) (mid : Held)
    (to : FollowsTo work lines form from old (record { held = held; lines = count; world = w; left = left }) mid) where
  here : FollowsTo work lines form from old (record { held = held; lines = count; world = w; left = e ∷ es }) mid
  here = subst (λ (list : List Event).
      FollowsTo work lines form from old (record { held = held; lines = count; world = w; left = list }) mid) is_left to

  pub follow_goes : (new : Held) → PlaysListed work lines w e line mid new → (round : ℕ) → round ≡ round_after held e →
      (v : World) → v ≡ step work w e →
      FollowsTo work lines form from old (record { held = round; lines = line; world = v; left = es }) new
  follow_goes new plays round is_round v is_world = λ shelf input after outcome leaves.
      let next = count + length (event_lines form held e) in
      let same : course_at work lines form (record { held = round; lines = line; world = v; left = es })
      ≡ followed (by_worlds work lines) form (round_after held e) next (step work w e) es =
      ap (λ (n : ℕ). followed (by_worlds work lines) form n line v es) is_round
      ∙ ap (λ (n : ℕ). followed (by_worlds work lines) form (round_after held e) n v es) is_line
      ∙ ap (λ (u : World). followed (by_worlds work lines) form (round_after held e) next u es) is_world in
      here shelf input after outcome
      (subst (λ (n : ℕ). PlaysListed work lines w e n mid new) is_line plays
      (followed (by_worlds work lines) form (round_after held e) next (step work w e) es) shelf input after outcome
      (subst (λ (c : Course). Leaves NoTask (follows c) (outside shelf new input) after outcome) same leaves))

  pub follow_stops : (new : Held) (fault : Fault) → StopsListed work lines w e line mid new fault →
      FollowsUp work lines form from old new (Some fault)
  follow_stops new fault stops = λ shelf input.
      let next = count + length (event_lines form held e) in
      here shelf input (outside shelf new input) (Some fault)
      (subst (λ (n : ℕ). StopsListed work lines w e n mid new fault) is_line stops
      (followed (by_worlds work lines) form (round_after held e) next (step work w e) es) shelf input)

-- ---- the whole
-- a text that says machines and events says few
pub are_machines : (text : List ℕ) (machines : ℕ) (events : List Event) → Says text machines events →
    AreMachines machines
are_machines text machines events says =
    let some = says.is.some in
    let few = small_machines says.form machines says.is.few in
    (omega arith, omega arith)

pub lines_few : (text : List ℕ) (machines : ℕ) (events : List Event) (says : Says text machines events) →
    1 + length (events_lines says.form 0 events) < 2 ^ 32
lines_few text machines events says =
    let all = schedule_lines says.form machines events in
    let small = lines_small all [] in
    let whole : length (text_of all ++ []) ≡ length (text_of all) = ap length (append-nil (text_of all)) in
    let same = ap length says.spelled in
    let fits = says.fits in
    omega (arith, small, whole, same, fits)

-- its events are followed from the first world on
module _ (work : Work) (play : Play) (form : Form) (events : List Event) (first : World) where
  pub run_follows : IsFirstWorld work play.program play.graph play.machines play.draws first →
      (old new : Held) (outcome : Option Fault) →
      FollowsUp work play.lines form (record { held = 0; lines = 1; world = first; left = events }) old new
      outcome → (shelf : Kept) (input : Left) →
      Goes (IsFollowedPlay work play form events) (outside shelf old input) (outside shelf new input) outcome
  run_follows is_first old new outcome up shelf input =
      Ran (followed (by_worlds work play.lines) form 0 1 first events)
      (record { first = first; is_first = is_first; course_is = refl }) (up shelf input)

-- ---- a task that goes one of some ways
-- what is left of a course is left of a task that may go so
pub task_goes : (work : Work) (task : Task) (is_course : Course → Type 0) →
    ((course : Course) → is_course course → IsPlayed work task course) → (old new : Outside) (outcome : Option Fault) →
    Goes is_course old new outcome → Leaves (IsPlayed work) (Runs task follows) old new outcome
task_goes work task is_course may old new outcome (Ran course is leaves) =
    Ran course (may course is) (unplayed (IsPlayed work) (follows course) old new outcome leaves)
task_goes work task is_course may old new outcome (WantsAtRun wants) = WantsAtRun wants

-- and so of a course that goes one of others
pub goes_so : (is_course others : Course → Type 0) → ((course : Course) → is_course course → others course) →
    (old new : Outside) (outcome : Option Fault) → Goes is_course old new outcome → Goes others old new outcome
goes_so is_course others may old new outcome (Ran course is leaves) = Ran course (may course is) leaves
goes_so is_course others may old new outcome (WantsAtRun wants) = WantsAtRun wants

-- ---- a text of some form
module _ (work : Work) (play : ℕ → Play) (text : List ℕ) where
  abbrev Told : ℕ → Form → List Event → Course → Type 0
  Told machines form events = IsFollowedPlay work (play machines) form events

  -- it says machines and events in form 1 or 2
  module _ (machines : ℕ) (events : List Event) (says : Says text machines events) (form : Form) where
    pub text_follows : form ≡ says.form → (old new : Outside) (outcome : Option Fault) →
        Goes (Told machines form events) old new outcome →
        Leaves (IsPlayed work) (Runs (Followed play text) follows) old new outcome
    text_follows is_form old new outcome goes =
        task_goes work (Followed play text) (Told machines form events)
        (λ course is. ByEvents (λ none. no_fault text machines events says Header (λ e. cc) none)
        (Tells machines events says (subst (λ (f : Form). Told machines f events course) is_form is))) old new outcome
        goes

  -- it has no first line of them
  pub text_linked : HasNoHeader text → (old new : Outside) (outcome : Option Fault) →
      Goes (ByLinkText text (λ machines events. IsLinkedPlay work (play machines) events)) old new outcome →
      Leaves (IsPlayed work) (Runs (Followed play text) follows) old new outcome
  text_linked none old new outcome goes =
      task_goes work (Followed play text) (ByLinkText text (λ machines events. IsLinkedPlay work (play machines)
      events))
      (λ course is. ByLinks none is) old new outcome goes

  -- it has another fault in form 1 or 2
  pub text_faulty : (fault : Fault) → fault ≢ BadHeader → NotRead text fault → (w : Outside) →
      Leaves (IsPlayed work) (Runs (Followed play text) follows) w w (Some fault)
  text_faulty fault other (BadText why real gives is) w =
      Ran _ (ByEvents (λ none. other (is ∙ ap text_fault (has_one_fault text why Header real (λ e. cc) gives none)))
      (IsFaulty why real gives refl))
      (Refused (record { same = refl; fault_is = ap Some is }))
  text_faulty fault other (WantsToRead is) w = WantsAtRun (record { same = refl; memory = ap Some is })

-- ---- a text of form 3
pub are_link_machines : (text : List ℕ) (machines : ℕ) (events : List LinkEvent) → SaysLinks text machines events →
    AreMachines machines
are_link_machines text machines events says = (says.is.some, says.is.few)

module _ (work : Work) (play : ℕ → Play) (text : List ℕ) where
  abbrev Linked : ℕ → List LinkEvent → Course → Type 0
  Linked machines events = IsLinkedPlay work (play machines) events

  pub links_follow : (machines : ℕ) (events : List LinkEvent) → SaysLinks text machines events →
      (old new : Outside) (outcome : Option Fault) → Goes (Linked machines events) old new outcome →
      Goes (ByLinkText text Linked) old new outcome
  links_follow machines events says old new outcome goes =
      goes_so (Linked machines events) (ByLinkText text Linked) (λ course is. TellsLinks machines events says is) old
      new
      outcome goes

  pub links_faulty : (fault : Fault) → NoLinksRead text fault → (w : Outside) →
      Goes (ByLinkText text Linked) w w (Some fault)
  links_faulty fault (BadLinkText why real gives is) w = Ran _ (LinksAreFaulty why real gives refl)
      (Refused (record { same = refl; fault_is = ap Some is }))
  links_faulty fault (WantsToReadLinks is) w = WantsAtRun (record { same = refl; memory = ap Some is })
