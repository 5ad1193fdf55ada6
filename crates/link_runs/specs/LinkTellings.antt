-- What a run over links that lose and repeat tells as it goes.
use Rattle.std.specs.Prelude.{ℕ, Bool, false, List, [], ◌∷◌, ◌+◌, if◌then◌else◌, option_map}
use Rattle.cluster_run.specs.declared.fault.EventFault.TheVariants.{RunOver}
use Rattle.cluster_run.specs.Faults.{lacking}
use Rattle.command_steps.specs.declared.impossible.Impossible.{Impossible}
use Rattle.command_steps.specs.declared.impossible.Impossible.TheVariants as impossible
use Rattle.link_core.specs.declared.event.LinkEvent.{LinkEvent}
use Rattle.link_core.specs.declared.event.LinkEvent.TheVariants.{Go, Take, Lose, Again, Ack, Drop}
use Rattle.link_core.specs.declared.fault.LinkFault.{LinkFault}
use Rattle.link_core.specs.declared.fault.LinkFault.TheVariants.{Plain}
use Rattle.link_core.specs.LinkFaults.{link_fault_of}
use Rattle.link_core.specs.Links.{Linked, link_step}
use Rattle.link_core.specs.LinkTexts.{event_line}
use Rattle.machine_runs.specs.PlainPlays.{ends_round, log_line}
use Rattle.machine_runs.specs.Tellings.{Listed, Telling, lack_of, why_of_go}
use Rattle.schedule_laws.specs.Layout.{round_lines, table_of}
use Rattle.symple_face.specs.Work.{Work}
use Rattle.symple_words.specs.declared.line.Lines.{Lines}
use Rattle.vert_base.specs.declared.message.Event.TheVariants as plain

-- The line of an event, where it is asked for: as by the machines, so that a take has the message's bytes exactly where
-- it accepts. Of what befalls the links alone it is the line of the schedule.
abbrev pub wire_line : Lines → LinkEvent → List ℕ
wire_line lines e = if lines.log then event_line e else []

abbrev pub link_line : Lines → Linked → LinkEvent → List ℕ
link_line lines l (Go m) = log_line lines l.world (plain.Go m)
link_line lines l (Take x) = log_line lines l.world (plain.Take x)
link_line lines l (Lose x) = wire_line lines (Lose x)
link_line lines l (Again x) = wire_line lines (Again x)
link_line lines l (Ack x) = wire_line lines (Ack x)
link_line lines l (Drop x) = wire_line lines (Drop x)

-- the lines of the round that an event ends: none but a go ends one
abbrev pub link_round : Work → Lines → Linked → LinkEvent → List ℕ
link_round work lines l (Go m) = round_lines work lines l.world (plain.Go m)
link_round work lines l (Take x) = []
link_round work lines l (Lose x) = []
link_round work lines l (Again x) = []
link_round work lines l (Ack x) = []
link_round work lines l (Drop x) = []

abbrev pub ends_link_round : Linked → LinkEvent → Bool
ends_link_round l (Go m) = ends_round l.world (plain.Go m)
ends_link_round l (Take x) = false
ends_link_round l (Lose x) = false
ends_link_round l (Again x) = false
ends_link_round l (Ack x) = false
ends_link_round l (Drop x) = false

-- why an event can't happen
abbrev pub unless_over : LinkFault → Impossible → Impossible
unless_over (Plain RunOver) why = impossible.RunOver
unless_over _ why = why

abbrev pub why_not_go : ℕ → LinkFault → Impossible
why_not_go m (Plain fault) = why_of_go m fault
why_not_go m _ = impossible.RunOver

abbrev pub why_not : LinkEvent → LinkFault → Impossible
why_not (Go m) fault = why_not_go m fault
why_not (Take x) fault = unless_over fault (impossible.NotUnderWay x)
why_not (Lose x) fault = unless_over fault (impossible.NotUnderWay x)
why_not (Again x) fault = unless_over fault (impossible.NotAgain x)
why_not (Ack x) fault = unless_over fault (impossible.NoAck x)
why_not (Drop x) fault = unless_over fault (impossible.NoAck x)

abbrev pub by_links : Work → Lines → Telling Linked LinkEvent
by_links work lines = record {
  own = link_line lines;
  ended = link_round work lines;
  table = λ l. table_of work l.world;
  behind = link_step work;
  refusal = λ l e. option_map (why_not e) (link_fault_of l e);
  lacks = λ l. option_map lack_of (lacking l.world);
}

-- the events behind so many lines of a text of form 3, which has a line for each
abbrev pub listed_links : ℕ → List LinkEvent → List (Listed LinkEvent)
listed_links lines [] = []
listed_links lines (e ∷ es) = record { line = lines + 1; event = e } ∷ listed_links (lines + 1) es
