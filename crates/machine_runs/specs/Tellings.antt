-- What a run tells as it goes, and the courses of runs whose events are kept, or follow a text.
use Rattle.std.specs.Prelude.{ℕ, ◌+◌, List, [], ◌∷◌, ◌++◌, Option, None, Some, if◌then◌else◌, length, nat_lt, option_map}
use Rattle.cluster_run.specs.declared.fault.EventFault.{EventFault}
use Rattle.cluster_run.specs.declared.fault.EventFault.TheVariants as event
use Rattle.cluster_run.specs.declared.fault.Missing.{Missing}
use Rattle.cluster_run.specs.declared.fault.Missing.TheVariants.{Gone, Taken}
use Rattle.cluster_run.specs.Faults.{fault_of, lacking}
use Rattle.command_steps.specs.declared.impossible.Impossible.{Impossible}
use Rattle.command_steps.specs.declared.impossible.Impossible.TheVariants as impossible
use Rattle.command_steps.specs.Notes.{BadEvent, Fault, LongSchedule, NotGone, NotTaken}
use Rattle.command_steps.specs.Orders.{Course, Fails, IsOver, Keeps, Prints}
use Rattle.delivery_log.specs.declared.form.Form.{Form}
use Rattle.delivery_log.specs.declared.form.Form.TheVariants.{Roundless}
use Rattle.delivery_log.specs.ScheduleTexts.{event_lines, round_after, schedule_text}
use Rattle.schedule_laws.specs.Layout.{round_lines, table_of}
use Rattle.symple_face.specs.Cluster.{World, step}
use Rattle.symple_face.specs.Work.{Work}
use Rattle.machine_runs.specs.PlainPlays.{log_line}
use Rattle.symple_words.specs.declared.line.Lines.{Lines}
use Rattle.vert_base.specs.declared.limits.TheConstants.{SCHEDULE_BYTES}
use Rattle.vert_base.specs.declared.message.Event.{Event}
use Rattle.vert_base.specs.declared.message.Event.TheVariants.{Go, Take}

-- what a run of events of a kind tells at a state of it
pub record Telling (X E : Type 0) : Type 0 where
  -- the line of an event, where it is asked for, and those of the round that it ends
  pub own : X → E → List ℕ
  pub ended : X → E → List ℕ
  pub table : X → List ℕ
  -- the state behind an event
  pub behind : X → E → X
  -- why an event can't happen, where it can't
  pub refusal : X → E → Option Impossible
  -- what the run lacks, where it isn't finished
  pub lacks : X → Option Fault

-- an event of a text, and the number of the line that tells it
pub record Listed (E : Type 0) : Type 0 where
  pub line : ℕ
  pub event : E

-- an event that can't happen ends the run, with the line that tells it
abbrev pub unless_refused : Option Impossible → ℕ → Course → Course
unless_refused None line rest = rest
unless_refused (Some why) line rest = Fails (BadEvent line why)

-- and so does the end, where the run isn't finished
abbrev pub unless_lacking : Option Fault → Course → Course
unless_lacking None rest = rest
unless_lacking (Some fault) rest = Fails fault

module _ {X E : Type 0} (t : Telling X E) where
  -- the lines of an event, and then the rest
  abbrev pub told_event : X → E → Course → Course
  told_event x e rest = Prints (t.own x e) (Prints (t.ended x e) rest)

  -- the table, and the end
  abbrev pub told_end : X → Course
  told_end x = Prints (t.table x) IsOver

  -- Each event is added to the text of those before it, if that stays within its limit, and then its lines
  -- are put. Behind the last one the text is kept, and the table is put.
  abbrev pub recorded_as : (List E → List ℕ) → List ℕ → List E → X → List E → Course
  recorded_as text name added x [] = Keeps name (text added) (told_end x)
  recorded_as text name added x (e ∷ es) =
      if nat_lt SCHEDULE_BYTES (length (text (added ++ e ∷ [])))
      then Fails LongSchedule
      else told_event x e (recorded_as text name (added ++ e ∷ []) (t.behind x e) es)

  -- the listed events, as far as they can happen
  abbrev pub followed_as : X → List (Listed E) → Course
  followed_as x [] = unless_lacking (t.lacks x) (told_end x)
  followed_as x (l ∷ ls) =
      unless_refused (t.refusal x l.event) l.line (told_event x l.event (followed_as (t.behind x l.event) ls))

-- ---- texts of forms 1 and 2

-- the text of form 2 is kept
abbrev pub recorded : {X : Type 0} → Telling X Event → List ℕ → ℕ → List Event → X → List Event → Course
recorded t name machines added x es = recorded_as t (schedule_text Roundless machines) name added x es

-- the events behind so many lines, where a round is held; the last line of an event is the one that tells it
abbrev pub listed : Form → ℕ → ℕ → List Event → List (Listed Event)
listed form held lines [] = []
listed form held lines (e ∷ es) =
    record { line = lines + length (event_lines form held e); event = e }
    ∷ listed form (round_after held e) (lines + length (event_lines form held e)) es

abbrev pub followed : {X : Type 0} → Telling X Event → Form → ℕ → ℕ → X → List Event → Course
followed t form held lines x es = followed_as t x (listed form held lines es)

-- ---- what machines tell by their states

abbrev pub why_of_go : ℕ → EventFault → Impossible
why_of_go m event.NoMachine = impossible.NoMachine m
why_of_go m (event.Waits x) = impossible.Waits m x
why_of_go m event.MachineOver = impossible.MachineOver m
why_of_go m event.NotUnderWay = impossible.RunOver
why_of_go m event.RunOver = impossible.RunOver
why_of_go m event.Want = impossible.RunOver

abbrev pub why_of : Event → EventFault → Impossible
why_of (Go m) fault = why_of_go m fault
why_of (Take x) event.NoMachine = impossible.NotUnderWay x
why_of (Take x) (event.Waits y) = impossible.NotUnderWay x
why_of (Take x) event.MachineOver = impossible.NotUnderWay x
why_of (Take x) event.NotUnderWay = impossible.NotUnderWay x
why_of (Take x) event.RunOver = impossible.RunOver
why_of (Take x) event.Want = impossible.NotUnderWay x

abbrev pub lack_of : Missing → Fault
lack_of (Taken x) = NotTaken x
lack_of (Gone m) = NotGone m

abbrev pub by_worlds : Work → Lines → Telling World Event
by_worlds work lines = record {
  own = log_line lines;
  ended = round_lines work lines;
  table = table_of work;
  behind = step work;
  refusal = λ w e. option_map (why_of e) (fault_of w e);
  lacks = λ w. option_map lack_of (lacking w);
}
