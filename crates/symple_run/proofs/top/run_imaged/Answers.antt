use Rattle.std.proofs.Common.{List, ℕ, sym}
use Rattle.std.proofs.lemmas.Result.{err_from_is_err_and}
use Rattle.command_steps.specs.Commands.{origin_of, play_of}
use Rattle.command_steps.specs.Faults.{fault_of}
use Rattle.command_steps.specs.Orders.{Imaged, Order, Runs, follows}
use Rattle.command_steps.specs.States.{shelf_state, sink_state}
use Rattle.command_steps.proofs.WalkLaws.{both_go, both_stop}
use Rattle.edge_reader.specs.EdgeList.{Graph}
use Rattle.edge_reader.specs.Gives.{graph_of_edges}
use Rattle.symple_run.specs.Played.{IsPlayed}
use Rattle.symple_words.specs.Views.{job_view}
use Rattle.vert_tree.specs.declared.program.Program.{Program}
use Rattle.symple_run.proofs.top.run_imaged.Goals as goal

pub returns-in_err-keyed-clause-order : goal.returns-in_err-keyed-clause-order
returns-in_err-keyed-clause-order g c =
    let job = job_view c.args.job.now in
    let next : List ℕ → Program → List ℕ → Graph → Order = λ text program bytes graph.
    Runs (Imaged (play_of job c.args.machines program graph) (origin_of job text bytes) c.args.image.now) follows in
    let old = shelf_state g.H.Shelf.files g.H.Shelf.loads g.H.Shelf.stores c.args.shelf.now in
    let new = shelf_state g.H.Shelf.files g.H.Shelf.loads g.H.Shelf.stores c.load_keyed.new.shelf in
    let p = err_from_is_err_and c.from_residual.result c.from_residual.ensures.1 in
    rw (p.1, p.2) (λ input. both_stop (IsPlayed g.S.Site.work) old new job.program job.form job.graph
    (fault_of c.in_err-keyed.field-0.0) c.in_err-keyed.ensures.both next _ input)

pub returns-clause-order : goal.returns-clause-order
returns-clause-order g c =
    let job = job_view c.args.job.now in
    let keyed = c.in_ok-keyed.keyed in
    let has = c.in_ok-keyed.ensures.both in
    let next : List ℕ → Program → List ℕ → Graph → Order = λ text program bytes graph.
    Runs (Imaged (play_of job c.args.machines program graph) (origin_of job text bytes) c.args.image.now) follows in
    let old = shelf_state g.H.Shelf.files g.H.Shelf.loads g.H.Shelf.stores c.args.shelf.now in
    let new = shelf_state g.H.Shelf.files g.H.Shelf.loads g.H.Shelf.stores c.load_keyed.new.shelf in
    let out = sink_state g.O.Sink.held g.O.Sink.faults g.O.Sink.spare c.args.out.now in
    λ input. both_go (IsPlayed g.S.Site.work) old new job.program job.form job.graph keyed.typed
    (graph_of_edges keyed.edges) has.0 next out input _ _
    (c.play_imaged.ensures.task (origin_of job has.0.has_program.text has.0.has_graph.bytes) (sym has.1) input)
