use Rattle.std.proofs.Common.{subst}
use Rattle.std.proofs.lemmas.Result.{err_from_is_err_and}
use Rattle.command_steps.specs.Faults.{fault_of}
use Rattle.command_steps.specs.States.{Kept, shelf_state}
use Rattle.command_steps.specs.Walks.{LacksGraph, LacksProgram, NoGraph}
use Rattle.command_steps.proofs.FileLaws.{bytes_from, text_from}
use Rattle.command_steps.proofs.read.load_sources.Goals as goal

pub returns-in_err-text-clause-both : goal.returns-in_err-text-clause-both
returns-in_err-text-clause-both g c =
    let p = err_from_is_err_and c.from_residual.result c.from_residual.ensures.1 in
    rw (p.1, p.2) (LacksProgram c.in_err-text.ensures.program)

pub returns-in_err-bytes-clause-both : goal.returns-in_err-bytes-clause-both
returns-in_err-bytes-clause-both g c =
    let read = c.in_ok-text.ensures.program in
    let new = shelf_state g.H.Shelf.files g.H.Shelf.loads g.H.Shelf.stores c.load_graph_bytes.new.shelf in
    let P : Kept → Type 0 = λ k.
    NoGraph k new c.args.form.now c.args.graph.now (fault_of c.in_err-bytes.field-0.0) in
    let p = err_from_is_err_and c.from_residual-in_err-bytes.result c.from_residual-in_err-bytes.ensures.1 in
    rw (p.1, p.2) (LacksGraph c.in_ok-text.typed (text_from _ _ _ _ read.0)
    (subst P read.0.same c.in_err-bytes.ensures.graph))

pub returns-clause-both : goal.returns-clause-both
returns-clause-both g c =
    let read = c.in_ok-text.ensures.program in
    let found = bytes_from _ _ _ _ _ _ _ read.0.same c.in_ok-bytes.ensures.graph in
    (record { has_program = text_from _ _ _ _ read.0; has_graph = found.0 }, read.1, found.1)
