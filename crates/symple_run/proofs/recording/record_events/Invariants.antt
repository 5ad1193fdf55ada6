use Rattle.std.proofs.Common.{◌≡◌, ℕ, [], false}
use Rattle.command_steps.specs.States.{sink_state}
use Rattle.delivery_log.specs.Choosers.{generator_of}
use Rattle.delivery_log.specs.Records.{Records}
use Rattle.symple_face.specs.Cluster.{events_left}
use Rattle.symple_run.specs.RecordWalks.{HasRecorded}
use Rattle.symple_run.proofs.recording.record_events.Given as goal

-- no Want has ended the machines, and the recorder has the events so far
abbrev pub invariant-events : goal.invariant-events
invariant-events g l =
    (l.cluster.ended ≡ false)
    × ((machines : ℕ) → Records l.fn.recorder machines [] →
    HasRecorded g.S.Site.work l.lines machines l.fn.cluster.world (generator_of l.seed)
    (sink_state g.O.Sink.held g.O.Sink.faults g.O.Sink.spare l.fn.out) l.cluster.world l.chooser
    (sink_state g.O.Sink.held g.O.Sink.faults g.O.Sink.spare l.out) l.recorder)

abbrev pub decreases-events : goal.decreases-events
decreases-events g l = events_left l.cluster.world
