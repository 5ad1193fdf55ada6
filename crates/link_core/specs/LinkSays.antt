-- What a text of form 3 says: a run over links, or one fault.
use Rattle.std.specs.Prelude.{◌≡◌, ◌≢◌, ◌<◌, ◌≤◌, ◌+◌, ℕ, List, [], ◌++◌, length, Result, Ok, Err}
use Rattle.vert_base.specs.declared.limits.TheConstants.{SCHEDULE_BYTES}
use Rattle.link_core.specs.declared.event.LinkEvent.{LinkEvent}
use Rattle.link_core.specs.declared.event.LinkSchedule.{LinkSchedule}
use Rattle.link_core.specs.declared.fault.LinkTextFault.{LinkTextFault}
use Rattle.link_core.specs.declared.fault.LinkTextFault.TheVariants.{Header, Line, TooLong, Want}
use Rattle.link_core.specs.LinkTexts.{IsLinkEvent, IsLinkSchedule, event_line, header_line, links_text}

-- the text is that of these machines and events
pub record SaysLinks (text : List ℕ) (machines : ℕ) (events : List LinkEvent) : Type 0 where
  pub is : IsLinkSchedule machines events
  pub fits : length text ≤ SCHEDULE_BYTES
  pub spelled : text ≡ links_text machines events

-- no first line stands at the front
pub record HasNoLinkHeader (text : List ℕ) : Type 0 where
  pub fits : length text ≤ SCHEDULE_BYTES
  pub none : (machines : ℕ) (rest : List ℕ) → 1 ≤ machines → machines ≤ 64 → text ≢ header_line machines ++ rest

-- something stands at the front, and not the line of an event
pub record HasNoLinkEvent (rest : List ℕ) : Type 0 where
  pub some : rest ≢ []
  pub none : (event : LinkEvent) (behind : List ℕ) → IsLinkEvent event → rest ≢ event_line event ++ behind

-- a run stands at the front, and what is behind its lines begins with the first bad line
pub record HasBadLinkLine (text : List ℕ) (number : ℕ) : Type 0 where
  pub machines : ℕ
  pub events : List LinkEvent
  pub rest : List ℕ
  pub is : IsLinkSchedule machines events
  pub fits : length text ≤ SCHEDULE_BYTES
  pub spelled : text ≡ links_text machines events ++ rest
  pub bad : HasNoLinkEvent rest
  pub counted : number ≡ length events + 2

-- a result is what the text says, or its first fault; want of memory may come at any text
abbrev pub GivesLinks : List ℕ → Result LinkSchedule LinkTextFault → Type 0
GivesLinks text (Ok schedule) = SaysLinks text schedule.machines schedule.events.items
GivesLinks text (Err TooLong) = SCHEDULE_BYTES < length text
GivesLinks text (Err Header) = HasNoLinkHeader text
GivesLinks text (Err (Line number)) = HasBadLinkLine text number
GivesLinks text (Err Want) = Unit {0}

-- the result is this run, or want of memory
abbrev pub IsLinksRead : ℕ → List LinkEvent → Result LinkSchedule LinkTextFault → Type 0
IsLinksRead machines events (Ok schedule) = (schedule.machines ≡ machines) × (schedule.events.items ≡ events)
IsLinksRead machines events (Err TooLong) = ⊥
IsLinksRead machines events (Err Header) = ⊥
IsLinksRead machines events (Err (Line number)) = ⊥
IsLinksRead machines events (Err Want) = Unit {0}
