-- Both files are read; then the parts are made and stored.
use Rattle.std.proofs.Common.{List, ℕ, map, refl, subst, sym, ◌≡◌}
use Rattle.std.specs.List.{All}
use Rattle.std.proofs.lemmas.Result.{err_from_is_err_and}
use Rattle.command_steps.specs.Commands.{part_play}
use Rattle.command_steps.specs.Faults.{fault_of}
use Rattle.command_steps.specs.Leaves.{Leaves, Ran, WantsAtRun}
use Rattle.command_steps.specs.Orders.{NoTask, Order, Parted, Runs, follows}
use Rattle.command_steps.specs.States.{outside, shelf_state}
use Rattle.command_steps.specs.Walks.{fault_after}
use Rattle.command_steps.proofs.LeavesLaws.{unplayed}
use Rattle.command_steps.proofs.WalkLaws.{both_go, both_stop}
use Rattle.edge_reader.specs.EdgeList.{Graph}
use Rattle.edge_reader.specs.Gives.{graph_of_edges}
use Rattle.part_runs.proofs.PartLaws.{say_all}
use Rattle.part_runs.specs.Parting.{parted}
use Rattle.part_runs.specs.PartWalks.{IsPartRun}
use Rattle.symple_face.specs.declared.part.Part.{Part}
use Rattle.symple_face.specs.PartViews.{plain_of}
use Rattle.program_reader.specs.Accepted.{Says}
use Rattle.vert_tree.specs.declared.program.Program.{Program}
use Rattle.vert_tree.specs.declared.typed.Typed.{Typed}
use Rattle.part_runs.proofs.parting.split.Goals as goal

pub returns-in_err-text-clause-order : goal.returns-in_err-text-clause-order
returns-in_err-text-clause-order g c =
    let next : List ℕ → Program → List ℕ → Graph → Order = λ text read bytes edges.
    Runs (Parted (part_play c.args.machines c.args.draws read edges) text c.args.prefix.now) follows in
    let old = shelf_state g.H.Shelf.files g.H.Shelf.loads g.H.Shelf.stores c.args.shelf.now in
    let new = shelf_state g.H.Shelf.files g.H.Shelf.loads g.H.Shelf.stores c.load_sources.new.shelf in
    let p = err_from_is_err_and c.from_residual.result c.from_residual.ensures.1 in
    rw (p.1, p.2) (λ work out input. both_stop (IsPartRun work) old new c.args.program.now c.args.form.now
    c.args.graph.now (fault_of c.in_err-text.field-0.0) c.in_err-text.ensures.both next out input)

pub returns-in_err-parts-clause-order : goal.returns-in_err-parts-clause-order
returns-in_err-parts-clause-order g c =
    let next : List ℕ → Program → List ℕ → Graph → Order = λ text read bytes edges.
    Runs (Parted (part_play c.args.machines c.args.draws read edges) text c.args.prefix.now) follows in
    let old = shelf_state g.H.Shelf.files g.H.Shelf.loads g.H.Shelf.stores c.args.shelf.now in
    let new = shelf_state g.H.Shelf.files g.H.Shelf.loads g.H.Shelf.stores c.load_sources.new.shelf in
    let read = c.in_ok-text.field-0 in
    let p = err_from_is_err_and c.from_residual-in_err-parts.result c.from_residual-in_err-parts.ensures.1 in
    rw (p.1, p.2) (λ work out input. both_go (IsPartRun work) old new c.args.program.now c.args.form.now
    c.args.graph.now read.typed (graph_of_edges read.edges) c.in_ok-text.ensures.both.0 next out input _ _
    (WantsAtRun (record { same = refl; memory = refl })))

pub returns-clause-order : goal.returns-clause-order
returns-clause-order g c =
    let next : List ℕ → Program → List ℕ → Graph → Order = λ text read bytes edges.
    Runs (Parted (part_play c.args.machines c.args.draws read edges) text c.args.prefix.now) follows in
    let old = shelf_state g.H.Shelf.files g.H.Shelf.loads g.H.Shelf.stores c.args.shelf.now in
    let mid = shelf_state g.H.Shelf.files g.H.Shelf.loads g.H.Shelf.stores c.load_sources.new.shelf in
    let new = shelf_state g.H.Shelf.files g.H.Shelf.loads g.H.Shelf.stores c.store_parts.new.shelf in
    let read = c.in_ok-text.field-0 in
    let has = c.in_ok-text.ensures.both in
    let parts = map plain_of c.in_ok-parts.parts.items in
    let text : c.deref-2.result.now ≡ has.0.has_program.text = cc (c.deref-2.ensures.value, has.1) in
    λ work out input.
    let P : List ℕ → List Part → Type 0 = λ t ps.
    Leaves NoTask (follows (parted c.args.prefix.now t (map plain_of ps))) (outside mid out input)
    (outside new out input) (fault_after c.store_parts.result) in
    both_go (IsPartRun work) old mid c.args.program.now c.args.form.now c.args.graph.now read.typed (graph_of_edges
    read.edges)
    has.0 next out input _ _
    (Ran (parted c.args.prefix.now has.0.has_program.text parts)
    (record { parts = parts; of_graph = c.in_ok-parts.ensures.of_graph; course_is = refl })
    (unplayed (IsPartRun work) (follows (parted c.args.prefix.now has.0.has_program.text parts)) (outside mid out input)
    (outside new out input) (fault_after c.store_parts.result) (subst (λ (ps : List Part). P has.0.has_program.text
    ps) c.deref.ensures.value
    (subst (λ (t : List ℕ). P t c.deref.result.now) text (c.store_parts.ensures.order out input)))))

pub store_parts-requires : goal.store_parts-requires
store_parts-requires g c =
    let has = c.in_ok-text.ensures.both in
    let text : c.deref-2.result.now ≡ has.0.has_program.text = cc (c.deref-2.ensures.value, has.1) in
    subst (λ (ps : List Part). All (λ part. Says c.deref-2.result.now part.split.value.program.program) ps)
    (sym c.deref.ensures.value)
    (say_all c.in_ok-parts.parts.items c.split_of.result (c.in_ok-parts.ensures.split) c.deref-2.result.now
    (subst (λ (t : Typed). Says c.deref-2.result.now t.program) (sym c.split_of.ensures)
    (subst (λ (t : List ℕ). Says t c.in_ok-text.field-0.typed.program) (sym text) has.0.has_program.says)))
