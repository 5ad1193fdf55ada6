use Rattle.std.proofs.Common.{refl, subst}
use Rattle.std.proofs.lemmas.Result.{err_from_is_err_and}
use Rattle.command_steps.specs.Faults.{fault_of}
use Rattle.command_steps.specs.States.{Kept, shelf_state}
use Rattle.command_steps.specs.Walks.{HasGraph, LacksGraph, LacksProgram, NoGraph}
use Rattle.edge_reader.specs.Gives.{graph_of_edges}
use Rattle.command_steps.proofs.read.load_both.Goals as goal

pub returns-in_err-typed-clause-both : goal.returns-in_err-typed-clause-both
returns-in_err-typed-clause-both g c =
    let p = err_from_is_err_and c.from_residual.result c.from_residual.ensures.1 in
    rw (p.1, p.2) (LacksProgram c.in_err-typed.ensures.program)

pub returns-in_err-edges-clause-both : goal.returns-in_err-edges-clause-both
returns-in_err-edges-clause-both g c =
    let has = c.in_ok-typed.ensures.program in
    let new = shelf_state g.H.Shelf.files g.H.Shelf.loads g.H.Shelf.stores c.load_graph.new.shelf in
    let P : Kept → Type 0 = λ k. NoGraph k new c.args.form.now c.args.graph.now (fault_of c.in_err-edges.field-0.0) in
    let p = err_from_is_err_and c.from_residual-in_err-edges.result c.from_residual-in_err-edges.ensures.1 in
    rw (p.1, p.2) (LacksGraph c.in_ok-typed.typed
    (record { text = has.text; under = has.under; within = has.within; says = has.says; same = refl })
    (subst P has.same c.in_err-edges.ensures.graph))

pub returns-clause-both : goal.returns-clause-both
returns-clause-both g c =
    let has = c.in_ok-typed.ensures.program in
    let new = shelf_state g.H.Shelf.files g.H.Shelf.loads g.H.Shelf.stores c.load_graph.new.shelf in
    let P : Kept → Type 0 = λ k. HasGraph k new c.args.form.now c.args.graph.now (graph_of_edges c.in_ok-edges.edges) in
    record {
      has_program = record { text = has.text; under = has.under; within = has.within; says = has.says; same = refl };
      has_graph = subst P has.same c.in_ok-edges.ensures.graph;
    }
