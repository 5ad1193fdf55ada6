use Rattle.std.proofs.Common.{◌≡◌, ◌+◌, false, drop}
use Rattle.command_steps.specs.States.{sink_state}
use Rattle.link_runs.specs.LinkTellings.{by_links, listed_links}
use Rattle.machine_runs.specs.FollowWalks.{FollowsTo}
use Rattle.link_runs.proofs.following.follow_events.Given as goal

-- no Want has ended the links; what comes at the events that are left comes from the first one on; and each event so
-- far had a line
abbrev pub invariant-events : goal.invariant-events
invariant-events g l =
    (l.links.ended ≡ false)
    × FollowsTo (by_links g.S.Site.work l.lines) l.fn.links.links (listed_links 1 l.events)
    (sink_state g.O.Sink.held g.O.Sink.faults g.O.Sink.spare l.fn.out) l.links.links
    (listed_links l.line (drop l.event-index l.events))
    (sink_state g.O.Sink.held g.O.Sink.faults g.O.Sink.spare l.out)
    × (l.line ≡ l.event-index + 1)
