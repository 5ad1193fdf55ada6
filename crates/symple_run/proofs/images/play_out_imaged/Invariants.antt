use Rattle.std.proofs.Common.{◌≡◌, false}
use Rattle.command_steps.specs.States.{shelf_state, sink_state}
use Rattle.symple_face.specs.Cluster.{events_left}
use Rattle.symple_run.specs.KeptImages.{LeadsOnImaged}
use Rattle.symple_run.proofs.images.play_out_imaged.Given as goal

-- no Want has ended the machines, and a run that goes on here goes on from the start
abbrev pub invariant-events : goal.invariant-events
invariant-events g l = record {
  on : l.cluster.ended ≡ false;
  leads : LeadsOnImaged g.S.Site.work l.lines l.key l.image l.fn.cluster.world
      (shelf_state g.H.Shelf.files g.H.Shelf.loads g.H.Shelf.stores l.fn.shelf)
      (sink_state g.O.Sink.held g.O.Sink.faults g.O.Sink.spare l.fn.out) l.cluster.world
      (shelf_state g.H.Shelf.files g.H.Shelf.loads g.H.Shelf.stores l.shelf)
      (sink_state g.O.Sink.held g.O.Sink.faults g.O.Sink.spare l.out);
  loads : g.H.Shelf.loads l.shelf ≡ g.H.Shelf.loads l.fn.shelf;
}

abbrev pub decreases-events : goal.decreases-events
decreases-events g l = events_left l.cluster.world
