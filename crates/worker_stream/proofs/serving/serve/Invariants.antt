-- The machine is along its way.
use Rattle.symple_face.specs.PartViews.{plain_of}
use Rattle.worker_stream.specs.Serving.{streams}
use Rattle.worker_stream.specs.Steps.{IsAlong}
use Rattle.worker_stream.specs.Walks.{chances}
use Rattle.worker_stream.proofs.serving.serve.Given as goal

abbrev pub invariant-steps : goal.invariant-steps
invariant-steps g l =
    IsAlong g.S.Site.work g.S.Site.sound (plain_of l.fn.part) l.fn.part.split.value
    (streams g.I.Source.left g.I.Source.faults g.O.Sink.held g.O.Sink.faults g.O.Sink.spare l.fn.input l.fn.out)
    (streams g.I.Source.left g.I.Source.faults g.O.Sink.held g.O.Sink.faults g.O.Sink.spare l.input l.out)
    l.at (g.S.Site.state l.site) l.names

abbrev pub decreases-steps : goal.decreases-steps
decreases-steps g l = chances (g.S.Site.state l.site) l.names
