-- The files of the parts so far were stored, and no load was tried.
use Rattle.std.proofs.Common.{◌≡◌, drop, map}
use Rattle.command_steps.specs.States.{shelf_state}
use Rattle.symple_face.specs.PartViews.{plain_of}
use Rattle.part_runs.proofs.PartLaws.{StoresTo}
use Rattle.part_runs.proofs.parting.store_parts.Given as goal

abbrev pub invariant-parts : goal.invariant-parts
invariant-parts g l =
    (g.H.Shelf.loads l.shelf ≡ g.H.Shelf.loads l.fn.shelf)
    × StoresTo l.prefix l.program (map plain_of l.parts)
    (shelf_state g.H.Shelf.files g.H.Shelf.loads g.H.Shelf.stores l.fn.shelf)
    (map plain_of (drop l.part-index l.parts))
    (shelf_state g.H.Shelf.files g.H.Shelf.loads g.H.Shelf.stores l.shelf)
