use Rattle.std.proofs.Common.{◌≡◌, false}
use Rattle.symple_face.specs.Cluster.{events_left}
use Rattle.symple_run.specs.ShowWalks.{CountsOn}
use Rattle.symple_run.proofs.shown.play_counted.Given as goal

-- no Want has ended the machines, and a plain run from here is the end of one from the start
abbrev pub invariant-events : goal.invariant-events
invariant-events g l =
    (l.cluster.ended ≡ false)
    × CountsOn g.S.Site.work l.fn.cluster.world l.cluster.world l.counts.rounds l.counts.reads

abbrev pub decreases-events : goal.decreases-events
decreases-events g l = events_left l.cluster.world
