use Rattle.std.proofs.Common.{List, ℕ, subst}
use Rattle.std.proofs.lemmas.Result.{err_from_is_err_and}
use Rattle.command_steps.specs.Commands.{followed_order, play_of}
use Rattle.command_steps.specs.Faults.{fault_of}
use Rattle.command_steps.specs.Notes.{LongSchedule}
use Rattle.command_steps.specs.Orders.{Followed, Order, Runs, follows}
use Rattle.command_steps.specs.States.{shelf_state, sink_state}
use Rattle.command_steps.specs.Walks.{HasBoth, NoBoth}
use Rattle.command_steps.proofs.WalkLaws.{both_go, both_stop}
use Rattle.edge_reader.specs.EdgeList.{Graph}
use Rattle.edge_reader.specs.Gives.{graph_of_edges}
use Rattle.symple_run.specs.Played.{IsPlayed}
use Rattle.symple_run.specs.RunWalks.{DoesTask}
use Rattle.command_steps.proofs.FileLaws.{bytes_go, bytes_stop}
use Rattle.symple_words.specs.Views.{job_view}
use Rattle.vert_tree.specs.declared.program.Program.{Program}
use Rattle.symple_run.proofs.following.replay.Goals as goal

pub returns-in_err-typed-clause-order : goal.returns-in_err-typed-clause-order
returns-in_err-typed-clause-order g c =
    let job = job_view c.args.job.now in
    let next : List ℕ → Program → List ℕ → Graph → Order = λ text program bytes graph.
    followed_order (λ machines. play_of job machines program graph) c.args.schedule.now in
    let old = shelf_state g.H.Shelf.files g.H.Shelf.loads g.H.Shelf.stores c.args.shelf.now in
    let new = shelf_state g.H.Shelf.files g.H.Shelf.loads g.H.Shelf.stores c.load_both.new.shelf in
    let fault = fault_of c.in_err-typed.field-0.0 in
    let P : List ℕ → Type 0 = λ name. NoBoth old new name job.form c.deref-2.result.now fault in
    let Q : List ℕ → Type 0 = λ name. NoBoth old new job.program job.form name fault in
    let p = err_from_is_err_and c.from_residual.result c.from_residual.ensures.1 in
    rw (p.1, p.2) (λ input. both_stop (IsPlayed g.S.Site.work) old new job.program job.form job.graph fault
    (subst Q c.deref-2.ensures (subst P c.deref.ensures c.in_err-typed.ensures.both)) next _ input)

pub returns-in_err-text-clause-order : goal.returns-in_err-text-clause-order
returns-in_err-text-clause-order g c =
    let job = job_view c.args.job.now in
    let next : List ℕ → Program → List ℕ → Graph → Order = λ text program bytes graph.
    followed_order (λ machines. play_of job machines program graph) c.args.schedule.now in
    let old = shelf_state g.H.Shelf.files g.H.Shelf.loads g.H.Shelf.stores c.args.shelf.now in
    let mid = shelf_state g.H.Shelf.files g.H.Shelf.loads g.H.Shelf.stores c.load_both.new.shelf in
    let new = shelf_state g.H.Shelf.files g.H.Shelf.loads g.H.Shelf.stores c.load_schedule.new.shelf in
    let typed = c.in_ok-typed.typed in
    let graph = graph_of_edges c.in_ok-typed.edges in
    let P : List ℕ → Type 0 = λ name. HasBoth old mid name job.form c.deref-2.result.now typed graph in
    let Q : List ℕ → Type 0 = λ name. HasBoth old mid job.program job.form name typed graph in
    let out = sink_state g.O.Sink.held g.O.Sink.faults g.O.Sink.spare c.args.out.now in
    let p = err_from_is_err_and c.from_residual-in_err-text.result c.from_residual-in_err-text.ensures.1 in
    rw (p.1, p.2) (λ input. both_go (IsPlayed g.S.Site.work) old mid job.program job.form job.graph typed graph
    (subst Q c.deref-2.ensures (subst P c.deref.ensures c.in_ok-typed.ensures.both)) next out input _ _
    (bytes_stop (IsPlayed g.S.Site.work) mid new c.args.schedule.now 67108864 LongSchedule _
    c.in_err-text.ensures.bytes (λ events.
    Runs (Followed (λ machines. play_of job machines typed.program graph) events) follows) out input))

pub returns-clause-order : goal.returns-clause-order
returns-clause-order g c =
    let job = job_view c.args.job.now in
    let next : List ℕ → Program → List ℕ → Graph → Order = λ text program bytes graph.
    followed_order (λ machines. play_of job machines program graph) c.args.schedule.now in
    let old = shelf_state g.H.Shelf.files g.H.Shelf.loads g.H.Shelf.stores c.args.shelf.now in
    let mid = shelf_state g.H.Shelf.files g.H.Shelf.loads g.H.Shelf.stores c.load_both.new.shelf in
    let new = shelf_state g.H.Shelf.files g.H.Shelf.loads g.H.Shelf.stores c.load_schedule.new.shelf in
    let typed = c.in_ok-typed.typed in
    let graph = graph_of_edges c.in_ok-typed.edges in
    let P : List ℕ → Type 0 = λ name. HasBoth old mid name job.form c.deref-2.result.now typed graph in
    let Q : List ℕ → Type 0 = λ name. HasBoth old mid job.program job.form name typed graph in
    let out = sink_state g.O.Sink.held g.O.Sink.faults g.O.Sink.spare c.args.out.now in
    λ input. both_go (IsPlayed g.S.Site.work) old mid job.program job.form job.graph typed graph
    (subst Q c.deref-2.ensures (subst P c.deref.ensures c.in_ok-typed.ensures.both)) next out input _ _
    (bytes_go (IsPlayed g.S.Site.work) mid new c.args.schedule.now 67108864 LongSchedule c.in_ok-text.text.items
    c.in_ok-text.ensures.bytes (λ events.
    Runs (Followed (λ machines. play_of job machines typed.program graph) events) follows) out input _ _
    (subst (λ (t : List ℕ). DoesTask g.S.Site.work
    (Followed (λ machines. play_of job machines typed.program graph) t) out
    (sink_state g.O.Sink.held g.O.Sink.faults g.O.Sink.spare c.follow.new.out) c.follow.result)
    c.deref-3.ensures.value c.follow.ensures new input))
