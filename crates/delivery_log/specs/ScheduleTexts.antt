-- How the machines and the events of a run are spelled as text.
use Rattle.std.specs.Prelude.{◌==◌, ◌<◌, ◌≤◌, ℕ, if◌then◌else◌, List, [], ◌∷◌, ◌++◌, codes, decimal}
use Rattle.std.specs.List.{AllByRecursion}
use Rattle.vert_base.specs.declared.message.Name.{Name}
use Rattle.vert_base.specs.declared.message.Event.{Event}
use Rattle.vert_base.specs.declared.message.Event.TheVariants.{Go, Take}
use Rattle.vert_base.specs.NameTexts.{IsName, name_text, roundless_text}
use Rattle.delivery_log.specs.declared.form.Form.{Form}
use Rattle.delivery_log.specs.declared.form.Form.TheVariants.{Whole, Roundless}

-- the text of lines: each ends with a line feed
abbrev pub text_of : List (List ℕ) → List ℕ
text_of [] = []
text_of (line ∷ lines) = line ++ 10 ∷ text_of lines

-- the first line
abbrev pub header_text : Form → List ℕ
header_text Whole = codes "schedule 1 machines "
header_text Roundless = codes "schedule 2 machines "

abbrev pub header_line : Form → ℕ → List ℕ
header_line form machines = header_text form ++ decimal machines

-- the line of a machine that goes, that of a round, and that of a message taken
abbrev pub go_line : ℕ → List ℕ
go_line machine = codes "go " ++ decimal machine

abbrev pub round_line : ℕ → List ℕ
round_line round = codes "round " ++ decimal round

abbrev pub taken_text : Form → Name → List ℕ
taken_text Whole x = name_text x
taken_text Roundless x = roundless_text x

abbrev pub take_line : Form → Name → List ℕ
take_line form x = codes "take " ++ taken_text form x

-- the lines before a take of a round, where another round is held: form 2 tells a round that differs
abbrev pub round_lines : Form → ℕ → ℕ → List (List ℕ)
round_lines Whole held round = []
round_lines Roundless held round = if held == round then [] else round_line round ∷ []

abbrev pub take_lines : Form → ℕ → Name → List (List ℕ)
take_lines form held x = round_lines form held x.round ++ take_line form x ∷ []

abbrev pub event_lines : Form → ℕ → Event → List (List ℕ)
event_lines form held (Go machine) = go_line machine ∷ []
event_lines form held (Take x) = take_lines form held x

-- the round that an event leaves held, and so events: that of the last take
abbrev pub round_after : ℕ → Event → ℕ
round_after held (Go machine) = held
round_after held (Take x) = x.round

abbrev pub last_round : ℕ → List Event → ℕ
last_round held [] = held
last_round held (event ∷ events) = last_round (round_after held event) events

abbrev pub events_lines : Form → ℕ → List Event → List (List ℕ)
events_lines form held [] = []
events_lines form held (event ∷ events) = event_lines form held event
    ++ events_lines form (round_after held event) events

-- round 0 is held at first
abbrev pub schedule_lines : Form → ℕ → List Event → List (List ℕ)
schedule_lines form machines events = header_line form machines ∷ events_lines form 0 events

-- the text of the machines and the events of a run in a form
abbrev pub schedule_text : Form → ℕ → List Event → List ℕ
schedule_text form machines events = text_of (schedule_lines form machines events)

-- how many machines a form has at most
abbrev pub most_machines : Form → ℕ
most_machines Whole = 16
most_machines Roundless = 64

-- an event's numbers have their sizes
abbrev pub IsEvent : Event → Type 0
IsEvent (Go machine) = machine < 256
IsEvent (Take x) = IsName x

-- a form has so many machines, and events are ones
pub record IsSchedule (form : Form) (machines : ℕ) (events : List Event) : Type 0 where
  pub some : 1 ≤ machines
  pub few : machines ≤ most_machines form
  pub each : AllByRecursion IsEvent events
