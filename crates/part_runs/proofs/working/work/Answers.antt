-- The part file is judged, and then its machine serves.
use Rattle.std.proofs.lemmas.Result.{err_from_is_err_and}
use Rattle.command_steps.specs.Faults.{fault_of}
use Rattle.command_steps.specs.States.{input_state, shelf_state, sink_state}
use Rattle.part_runs.proofs.ServeLaws.{part_serves, part_stops}
use Rattle.part_runs.proofs.working.work.Goals as goal

pub returns-in_err-part-clause-order : goal.returns-in_err-part-clause-order
returns-in_err-part-clause-order g c =
    let old = shelf_state g.H.Shelf.files g.H.Shelf.loads g.H.Shelf.stores c.args.shelf.now in
    let new = shelf_state g.H.Shelf.files g.H.Shelf.loads g.H.Shelf.stores c.load_part.new.shelf in
    let out = sink_state g.O.Sink.held g.O.Sink.faults g.O.Sink.spare c.args.out.now in
    let input = input_state g.I.Source.left g.I.Source.faults c.args.input.now in
    let p = err_from_is_err_and c.from_residual.result c.from_residual.ensures.1 in
    rw (p.1, p.2) (part_stops g.S.Site.work c.args.rows.now c.args.part.now old new
    (fault_of c.in_err-part.field-0.0) c.in_err-part.ensures.part out input)

pub returns-clause-order : goal.returns-clause-order
returns-clause-order g c =
    let old = shelf_state g.H.Shelf.files g.H.Shelf.loads g.H.Shelf.stores c.args.shelf.now in
    let mid = shelf_state g.H.Shelf.files g.H.Shelf.loads g.H.Shelf.stores c.load_part.new.shelf in
    let out = sink_state g.O.Sink.held g.O.Sink.faults g.O.Sink.spare c.args.out.now in
    let input = input_state g.I.Source.left g.I.Source.faults c.args.input.now in
    part_serves g.S.Site.work c.args.rows.now c.args.part.now old mid c.in_ok-part.part
    c.in_ok-part.ensures.part out input _ _ c.serve_part.ensures.order
