-- The input was served, or not to its end; then the lines were stored, or could not be.
use Rattle.std.proofs.lemmas.Result.{err_from_is_err_and}
use Rattle.command_steps.specs.States.{shelf_state}
use Rattle.symple_face.specs.PartViews.{plain_of}
use Rattle.part_runs.proofs.ServeLaws.{serve_ends, serve_keeps}
use Rattle.part_runs.proofs.working.serve_part.Goals as goal

pub returns-in_err-site-clause-order : goal.returns-in_err-site-clause-order
returns-in_err-site-clause-order g c =
    let shelf = shelf_state g.H.Shelf.files g.H.Shelf.loads g.H.Shelf.stores c.args.shelf.now in
    let served = c.in_err-site.ensures in
    let p = err_from_is_err_and c.from_residual.result c.from_residual.ensures.1 in
    rw (p.1, p.2) (serve_ends g.S.Site.work (plain_of c.args.part) c.args.part.split.value
    c.args.rows.now shelf _ _ served.0 served.1 g.S.Site.state c.in_err-site.field-0.0 served.2)

pub returns-clause-order : goal.returns-clause-order
returns-clause-order g c =
    let shelf = shelf_state g.H.Shelf.files g.H.Shelf.loads g.H.Shelf.stores c.args.shelf.now in
    let kept = shelf_state g.H.Shelf.files g.H.Shelf.loads g.H.Shelf.stores c.store_rows.new.shelf in
    let served = c.in_ok-site.ensures in
    serve_keeps g.S.Site.work (plain_of c.args.part) c.args.part.split.value
    c.args.rows.now shelf _ _ served.0 served.1 g.S.Site.state c.in_ok-site.site served.2 kept c.store_rows.result
    c.store_rows.ensures.stored
