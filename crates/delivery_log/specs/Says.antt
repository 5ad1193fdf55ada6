-- What a text says: a schedule, or one fault.
use Rattle.std.specs.Prelude.{◌≡◌, ◌≢◌, ◌<◌, ◌≤◌, ℕ, ◌+◌, List, [], ◌∷◌, ◌++◌, length, Result, Ok, Err}
use Rattle.vert_base.specs.declared.message.Event.{Event}
use Rattle.vert_base.specs.declared.limits.TheConstants.{SCHEDULE_BYTES}
use Rattle.delivery_log.specs.declared.form.Form.{Form}
use Rattle.delivery_log.specs.declared.form.Schedule.{Schedule}
use Rattle.delivery_log.specs.declared.fault.ScheduleFault.{ScheduleFault}
use Rattle.delivery_log.specs.declared.fault.ScheduleFault.TheVariants.{Header, Line, TooLong, Want}
use Rattle.delivery_log.specs.ScheduleTexts.{text_of, event_lines, header_line, last_round, schedule_lines, schedule_text, most_machines, IsEvent, IsSchedule}

-- the text is that of these machines and events, in one of both forms
pub record Says (text : List ℕ) (machines : ℕ) (events : List Event) : Type 0 where
  pub form : Form
  pub is : IsSchedule form machines events
  pub fits : length text ≤ SCHEDULE_BYTES
  pub spelled : text ≡ schedule_text form machines events

-- no first line stands at the front
pub record HasNoHeader (text : List ℕ) : Type 0 where
  pub fits : length text ≤ SCHEDULE_BYTES
  pub none : (form : Form) (machines : ℕ) (rest : List ℕ) → 1 ≤ machines → machines ≤ most_machines form →
      text ≢ header_line form machines ++ 10 ∷ rest

-- where a round is held, something stands at the front, and not the lines of an event
pub record HasNoEvent (form : Form) (held : ℕ) (rest : List ℕ) : Type 0 where
  pub some : rest ≢ []
  pub none : (event : Event) (behind : List ℕ) → IsEvent event → rest ≢ text_of (event_lines form held event) ++ behind

-- a schedule stands at the front, and what is behind its lines begins with the first bad line
pub record HasBadLine (text : List ℕ) (number : ℕ) : Type 0 where
  pub form : Form
  pub machines : ℕ
  pub events : List Event
  pub rest : List ℕ
  pub is : IsSchedule form machines events
  pub fits : length text ≤ SCHEDULE_BYTES
  pub spelled : text ≡ schedule_text form machines events ++ rest
  pub bad : HasNoEvent form (last_round 0 events) rest
  pub counted : number ≡ length (schedule_lines form machines events) + 1

-- a result is what the text says, or its first fault; want of memory may come at any text
abbrev pub Gives : List ℕ → Result Schedule ScheduleFault → Type 0
Gives text (Ok schedule) = Says text schedule.machines schedule.events.items
Gives text (Err TooLong) = SCHEDULE_BYTES < length text
Gives text (Err Header) = HasNoHeader text
Gives text (Err (Line number)) = HasBadLine text number
Gives text (Err Want) = Unit {0}
