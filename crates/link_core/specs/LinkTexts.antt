-- How the machines and the events of a run over links are spelled as text.
use Rattle.std.specs.Prelude.{◌<◌, ◌≤◌, ℕ, List, [], ◌∷◌, ◌++◌, codes, decimal, flat_map}
use Rattle.std.specs.List.{AllByRecursion}
use Rattle.vert_base.specs.NameTexts.{IsName, name_text}
use Rattle.link_core.specs.declared.event.LinkEvent.{LinkEvent}
use Rattle.link_core.specs.declared.event.LinkEvent.TheVariants.{Go, Take, Lose, Again, Ack, Drop}

-- the word at the front of an event's line, and what stands behind it: a machine, or a whole name
abbrev pub word_text : LinkEvent → List ℕ
word_text (Go machine) = codes "go "
word_text (Take x) = codes "take "
word_text (Lose x) = codes "lose "
word_text (Again x) = codes "again "
word_text (Ack x) = codes "ack "
word_text (Drop x) = codes "drop "

abbrev pub event_text : LinkEvent → List ℕ
event_text (Go machine) = decimal machine
event_text (Take x) = name_text x
event_text (Lose x) = name_text x
event_text (Again x) = name_text x
event_text (Ack x) = name_text x
event_text (Drop x) = name_text x

-- the line with its line feed
abbrev pub event_line : LinkEvent → List ℕ
event_line event = (word_text event ++ event_text event) ++ 10 ∷ []

abbrev pub header_line : ℕ → List ℕ
header_line machines = (codes "schedule 3 machines " ++ decimal machines) ++ 10 ∷ []

-- the text of form 3 of the machines and the events of a run
abbrev pub links_text : ℕ → List LinkEvent → List ℕ
links_text machines events = header_line machines ++ flat_map event_line events

-- an event's numbers have their sizes
abbrev pub IsLinkEvent : LinkEvent → Type 0
IsLinkEvent (Go machine) = machine < 256
IsLinkEvent (Take x) = IsName x
IsLinkEvent (Lose x) = IsName x
IsLinkEvent (Again x) = IsName x
IsLinkEvent (Ack x) = IsName x
IsLinkEvent (Drop x) = IsName x

-- a run has so many machines, and events are ones
pub record IsLinkSchedule (machines : ℕ) (events : List LinkEvent) : Type 0 where
  pub some : 1 ≤ machines
  pub few : machines ≤ 64
  pub each : AllByRecursion IsLinkEvent events

-- the line without its line feed
abbrev pub event_front : LinkEvent → List ℕ
event_front event = word_text event ++ event_text event
