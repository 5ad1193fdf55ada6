use Rattle.std.proofs.Common.{◌≡◌, ◌-◌, false, length}
use Rattle.command_steps.specs.States.{sink_state}
use Rattle.delivery_log.specs.Choosers.{generator_of}
use Rattle.link_core.specs.LinkRecords.{RecordsLinks}
use Rattle.link_core.specs.LinkTexts.{links_text}
use Rattle.link_runs.specs.LinkedPlays.{IsDrawnFar}
use Rattle.link_runs.specs.LinkTellings.{by_links}
use Rattle.machine_runs.specs.RecordWalks.{HasRecorded}
use Rattle.link_runs.proofs.recording.record_events.Given as goal

-- no Want has ended the links, and the recorder has the events so far
abbrev pub invariant-events : goal.invariant-events
invariant-events g l =
    (l.links.ended ≡ false)
    × HasRecorded (by_links g.S.Site.work l.lines) (links_text l.machines) (IsDrawnFar g.S.Site.work l.machines)
    (RecordsLinks l.recorder l.machines) l.fn.links.links (generator_of l.seed)
    (sink_state g.O.Sink.held g.O.Sink.faults g.O.Sink.spare l.fn.out) l.links.links l.chooser
    (sink_state g.O.Sink.held g.O.Sink.faults g.O.Sink.spare l.out)

-- each event makes the text longer, which stays within its limit
abbrev pub decreases-events : goal.decreases-events
decreases-events g l = 67108864 - length l.recorder
