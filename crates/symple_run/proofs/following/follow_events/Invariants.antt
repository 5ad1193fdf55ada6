use Rattle.std.proofs.Common.{◌≡◌, ◌+◌, false, drop, length}
use Rattle.command_steps.specs.States.{sink_state}
use Rattle.delivery_log.specs.ScheduleTexts.{events_lines}
use Rattle.symple_run.specs.FollowWalks.{FollowsTo}
use Rattle.symple_run.proofs.following.follow_events.Given as goal

-- no Want has ended the machines; what comes at the events that are left comes from the first one on; and so many
-- lines are left as events
abbrev pub invariant-events : goal.invariant-events
invariant-events g l =
    (l.cluster.ended ≡ false)
    × FollowsTo g.S.Site.work l.lines l.form
    (record { held = 0; lines = 1; world = l.fn.cluster.world; left = l.events })
    (sink_state g.O.Sink.held g.O.Sink.faults g.O.Sink.spare l.fn.out)
    (record { held = l.held; lines = l.line; world = l.cluster.world; left = drop l.event-index l.events })
    (sink_state g.O.Sink.held g.O.Sink.faults g.O.Sink.spare l.out)
    × (l.line + length (events_lines l.form l.held (drop l.event-index l.events))
    ≡ 1 + length (events_lines l.form 0 l.events))
