-- A name or a file may want memory; else the file was stored, or could not be.
use Rattle.std.proofs.Common.{List, ℕ, ap, refl, subst, ◌∙◌}
use Rattle.std.proofs.lemmas.Result.{err_from_is_err_and}
use Rattle.command_steps.specs.Commands.{part_name}
use Rattle.command_steps.specs.FileWalks.{StoresFile, WantsToStore}
use Rattle.command_steps.specs.States.{shelf_state}
use Rattle.symple_face.specs.PartViews.{plain_of}
use Rattle.part_runs.proofs.parting.store_part.Goals as goal

pub returns-in_err-name-clause-stored : goal.returns-in_err-name-clause-stored
returns-in_err-name-clause-stored g c =
    let p = err_from_is_err_and c.from_residual.result c.from_residual.ensures.1 in
    rw (p.1, p.2) (WantsToStore refl refl)

pub returns-in_err-bytes-clause-stored : goal.returns-in_err-bytes-clause-stored
returns-in_err-bytes-clause-stored g c =
    let p = err_from_is_err_and c.from_residual-in_err-bytes.result c.from_residual-in_err-bytes.ensures.1 in
    rw (p.1, p.2) (WantsToStore refl refl)

pub returns-clause-stored : goal.returns-clause-stored
returns-clause-stored g c =
    let old = shelf_state g.H.Shelf.files g.H.Shelf.loads g.H.Shelf.stores c.args.shelf.now in
    let new = shelf_state g.H.Shelf.files g.H.Shelf.loads g.H.Shelf.stores c.store_file.new.shelf in
    let name = part_name c.args.prefix.now (plain_of c.args.part.now).at.machine in
    subst (λ (b : List ℕ). StoresFile name b old new c.store_file.result)
    (c.deref-2.ensures.value ∙ c.in_ok-bytes.ensures.bytes)
    (subst (λ (n : List ℕ). StoresFile n c.deref-2.result.now old new c.store_file.result)
    (c.deref.ensures ∙ c.in_ok-name.ensures ∙ ap (part_name c.args.prefix.now) c.number.ensures.number)
    c.store_file.ensures.stored)
