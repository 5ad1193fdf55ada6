use Rattle.std.proofs.Common.{◌≡◌, false}
use Rattle.symple_face.specs.Cluster.{events_left}
use Rattle.machine_runs.specs.PlainPlays.{LeadsOn}
use Rattle.command_steps.specs.States.{sink_state}
use Rattle.machine_runs.proofs.machines.play_out.Given as goal

-- no Want has ended the machines, and a run that goes on here goes on from the start
abbrev pub invariant-events : goal.invariant-events
invariant-events g l =
    (l.cluster.ended ≡ false)
    × LeadsOn g.S.Site.work l.lines l.fn.cluster.world
    (sink_state g.O.Sink.held g.O.Sink.faults g.O.Sink.spare l.fn.out) l.cluster.world
    (sink_state g.O.Sink.held g.O.Sink.faults g.O.Sink.spare l.out)

abbrev pub decreases-events : goal.decreases-events
decreases-events g l = events_left l.cluster.world
