-- What playing one event over links does to a sink, whoever chose it and whatever comes then.
use Rattle.command_steps.specs.Notes.{Fault}
use Rattle.command_steps.specs.States.{Held}
use Rattle.link_core.specs.declared.event.LinkEvent.{LinkEvent}
use Rattle.link_core.specs.Links.{Linked}
use Rattle.link_runs.specs.LinkTellings.{by_links}
use Rattle.machine_runs.specs.PlayedEvents.{PutsEvent, StopsAtEvent}
use Rattle.symple_face.specs.Work.{Work}
use Rattle.symple_words.specs.declared.line.Lines.{Lines}

-- the line of an event and those of the round that it ends were put
abbrev pub PutsLinked : Work → Lines → Linked → LinkEvent → Held → Held → Type 0
PutsLinked work lines l e old new = PutsEvent (by_links work lines) l e old new

-- or they were up to a fault
abbrev pub StopsInLinked : Work → Lines → Linked → LinkEvent → Held → Held → Fault → Type 0
StopsInLinked work lines l e old new fault = StopsAtEvent (by_links work lines) l e old new fault
