use Rattle.std.proofs.Common.{List, Option, ap, inr, subst, ℕ}
use Rattle.std.proofs.lemmas.Result.{err_from_is_err_and}
use Rattle.command_steps.specs.Commands.{play_of}
use Rattle.command_steps.specs.Faults.{fault_of}
use Rattle.command_steps.specs.Orders.{Drawn, Order, Runs, follows}
use Rattle.command_steps.specs.States.{Kept, shelf_state, sink_state}
use Rattle.command_steps.specs.Walks.{HasBoth, NoBoth}
use Rattle.command_steps.proofs.WalkLaws.{both_go, both_stop}
use Rattle.edge_reader.specs.EdgeList.{Graph}
use Rattle.edge_reader.specs.Gives.{graph_of_edges}
use Rattle.link_runs.specs.Writing.{ChangesByWriting}
use Rattle.link_runs.proofs.WritingLaws.{both_same}
use Rattle.outside.specs.Files.{File}
use Rattle.symple_run.specs.Played.{IsPlayed}
use Rattle.symple_words.specs.Views.{job_view}
use Rattle.vert_tree.specs.declared.program.Program.{Program}
use Rattle.symple_run.proofs.recording.record.Goals as goal

pub returns-in_err-read-clause-order : goal.returns-in_err-read-clause-order
returns-in_err-read-clause-order g c =
    let job = job_view c.args.job.now in
    let next : List ℕ → Program → List ℕ → Graph → Order = λ text program bytes graph.
    Runs (Drawn (play_of job c.args.machines program graph) c.args.seed c.args.schedule.now) follows in
    let old = shelf_state g.H.Shelf.files g.H.Shelf.loads g.H.Shelf.stores c.args.shelf.now in
    let new = shelf_state g.H.Shelf.files g.H.Shelf.loads g.H.Shelf.stores c.load_both.new.shelf in
    let fault = fault_of c.in_err-read.field-0.0 in
    let P : List ℕ → Type 0 = λ name. NoBoth old new name job.form c.deref-2.result.now fault in
    let Q : List ℕ → Type 0 = λ name. NoBoth old new job.program job.form name fault in
    let p = err_from_is_err_and c.from_residual.result c.from_residual.ensures.1 in
    rw (p.1, p.2) (λ input. both_stop (IsPlayed g.S.Site.work) old new job.program job.form job.graph fault
    (subst Q c.deref-2.ensures (subst P c.deref.ensures c.in_err-read.ensures.both)) next _ input)

pub returns-clause-order : goal.returns-clause-order
returns-clause-order g c =
    let job = job_view c.args.job.now in
    let next : List ℕ → Program → List ℕ → Graph → Order = λ text program bytes graph.
    Runs (Drawn (play_of job c.args.machines program graph) c.args.seed c.args.schedule.now) follows in
    let old = shelf_state g.H.Shelf.files g.H.Shelf.loads g.H.Shelf.stores c.args.shelf.now in
    let new = shelf_state g.H.Shelf.files g.H.Shelf.loads g.H.Shelf.stores c.load_both.new.shelf in
    let typed = c.in_ok-read.read.0 in
    let graph = graph_of_edges c.in_ok-read.read.1 in
    let P : List ℕ → Type 0 = λ name. HasBoth old new name job.form c.deref-2.result.now typed graph in
    let Q : List ℕ → Type 0 = λ name. HasBoth old new job.program job.form name typed graph in
    let out = sink_state g.O.Sink.held g.O.Sink.faults g.O.Sink.spare c.args.out.now in
    λ input. both_go (IsPlayed g.S.Site.work) old new job.program job.form job.graph typed graph
    (subst Q c.deref-2.ensures (subst P c.deref.ensures c.in_ok-read.ensures.both)) next out input _ _
    (c.play_drawn.ensures.order input)

pub returns-in_err-read-clause-written : goal.returns-in_err-read-clause-written
returns-in_err-read-clause-written g c =
    let p = err_from_is_err_and c.from_residual.result c.from_residual.ensures.1 in
    rw (p.1, p.2) (inr (both_same _ _ _ _ _ _ c.in_err-read.ensures.both))

pub returns-clause-written : goal.returns-clause-written
returns-clause-written g c =
    let new = g.H.Shelf.files c.play_drawn.new.shelf in
    subst (λ (files : Option (List File)). ChangesByWriting files new c.play_drawn.result)
    (ap (λ (k : Kept). k.files) c.in_ok-read.ensures.both.has_graph.same) c.play_drawn.ensures.written
