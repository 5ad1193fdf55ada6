-- What is done by the text of a schedule: its events are played, or kept in form 2.
use Rattle.std.specs.Prelude.{◌≡◌, ◌≢◌, ℕ, List, Err, if◌then◌else◌, length, nat_lt}
use Rattle.command_steps.specs.Notes.{BadEventLine, BadHeader, Fault, LongSchedule, NoMemory}
use Rattle.command_steps.specs.Orders.{Course, Fails, IsOver, Keeps, Play}
use Rattle.delivery_log.specs.declared.fault.ScheduleFault.{ScheduleFault}
use Rattle.delivery_log.specs.declared.fault.ScheduleFault.TheVariants.{Header, Line, TooLong, Want}
use Rattle.delivery_log.specs.declared.form.Form.{Form}
use Rattle.delivery_log.specs.declared.form.Form.TheVariants.{Roundless}
use Rattle.delivery_log.specs.Says.{Gives, HasNoHeader, Says}
use Rattle.delivery_log.specs.ScheduleTexts.{schedule_text}
use Rattle.link_core.specs.declared.event.LinkEvent.{LinkEvent}
use Rattle.link_core.specs.declared.fault.LinkTextFault.{LinkTextFault}
use Rattle.link_core.specs.declared.fault.LinkTextFault.TheVariants as link
use Rattle.link_core.specs.LinkSays.{GivesLinks, SaysLinks}
use Rattle.link_runs.specs.LinkedPlays.{IsLinkedPlay}
use Rattle.symple_face.specs.Cluster.{World}
use Rattle.symple_face.specs.Work.{Work}
use Rattle.machine_runs.specs.PlainPlays.{IsFirstWorld}
use Rattle.machine_runs.specs.Tellings.{by_worlds, followed}
use Rattle.vert_base.specs.declared.limits.TheConstants.{SCHEDULE_BYTES}
use Rattle.vert_base.specs.declared.message.Event.{Event}

-- what a command tells of a fault of a text
abbrev pub text_fault : ScheduleFault → Fault
text_fault TooLong = LongSchedule
text_fault Header = BadHeader
text_fault (Line number) = BadEventLine number
text_fault Want = NoMemory

-- The text is judged first: it tells machines and events in a form, or it has a fault, and with it the task ends.
pub data ByText (text : List ℕ) (told : ℕ → Form → List Event → Course → Type 0) (course : Course) : Type 0 where
  Tells : (machines : ℕ) (events : List Event) (says : Says text machines events) →
      told machines says.form events course → ByText text told course
  IsFaulty : (why : ScheduleFault) → why ≢ Want → Gives text (Err why) → course ≡ Fails (text_fault why) →
      ByText text told course

-- the same of a text of form 3
abbrev pub link_text_fault : LinkTextFault → Fault
link_text_fault link.TooLong = LongSchedule
link_text_fault link.Header = BadHeader
link_text_fault (link.Line number) = BadEventLine number
link_text_fault link.Want = NoMemory

-- A text of form 3 is judged first: it tells machines and events over links, or it has a fault.
pub data ByLinkText (text : List ℕ) (told : ℕ → List LinkEvent → Course → Type 0) (course : Course) : Type 0 where
  TellsLinks : (machines : ℕ) (events : List LinkEvent) → SaysLinks text machines events →
      told machines events course → ByLinkText text told course
  LinksAreFaulty : (why : LinkTextFault) → why ≢ link.Want → GivesLinks text (Err why) →
      course ≡ Fails (link_text_fault why) → ByLinkText text told course

-- The first line says the form: a text with none of forms 1 and 2 is judged as one of form 3.
pub data ByEachForm (text : List ℕ) (told : ℕ → Form → List Event → Course → Type 0)
    (linked : ℕ → List LinkEvent → Course → Type 0) (course : Course) : Type 0 where
  ByEvents : ¬ (HasNoHeader text) → ByText text told course → ByEachForm text told linked course
  ByLinks : HasNoHeader text → ByLinkText text linked course → ByEachForm text told linked course

-- The events are played one by one, behind the first line, as far as they can happen.
pub record IsFollowedPlay (work : Work) (play : Play) (form : Form) (events : List Event) (course : Course) : Type 0
  where
    pub first : World
    pub is_first : IsFirstWorld work play.program play.graph play.machines play.draws first
    pub course_is : course ≡ followed (by_worlds work play.lines) form 0 1 first events

abbrev pub IsFollowed : Work → (ℕ → Play) → List ℕ → Course → Type 0
IsFollowed work play text course =
    ByEachForm text (λ machines form events. IsFollowedPlay work (play machines) form events)
    (λ machines events. IsLinkedPlay work (play machines) events) course

-- the text of form 2 of the same machines and events is kept, if it stays within its limit
abbrev pub renewed : List ℕ → ℕ → List Event → Course
renewed target machines events =
    if nat_lt SCHEDULE_BYTES (length (schedule_text Roundless machines events)) then Fails LongSchedule
    else Keeps target (schedule_text Roundless machines events) IsOver

abbrev pub IsRenewed : List ℕ → List ℕ → Course → Type 0
IsRenewed text target course =
    ByText text (λ machines form events course. course ≡ renewed target machines events) course
