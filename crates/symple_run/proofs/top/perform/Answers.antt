use Rattle.std.proofs.Common.{List, ℕ, sym, ap, ◌∙◌}
use Rattle.command_steps.specs.Commands.{asked, demo_order, free_order, plan_order, renew_order, replay_order, resume_order, show_order}
use Rattle.symple_run.specs.Played.{IsPlayed}
use Rattle.command_steps.specs.States.{Left, Outside, input_state, outside, shelf_state, sink_state}
use Rattle.command_steps.specs.Walks.{fault_after}
use Rattle.command_steps.proofs.LeavesLaws.{unplayed}
use Rattle.command_steps.proofs.WalkLaws.{as_order}
use Rattle.symple_words.specs.declared.line.Line.{Line}
use Rattle.symple_words.specs.Lines.{RecordOf}
use Rattle.symple_words.specs.Views.{job_view, line_view}
use Rattle.symple_run.proofs.PartTasks.{part_order, split_same, worker_same}
use Rattle.symple_run.proofs.top.perform.Goals as goal

pub returns-in-RunLine-clause-order : goal.returns-in-RunLine-clause-order
returns-in-RunLine-clause-order g c =
    let input = input_state g.I.Source.left g.I.Source.faults c.args.input.now in
    as_order (IsPlayed g.S.Site.work) _ _ _ _ _ (ap (λ (line : Line). asked (line_view line)) (sym c.in-RunLine.is))
    (c.run_line.ensures.order input)

pub returns-in-PlanLine-clause-order : goal.returns-in-PlanLine-clause-order
returns-in-PlanLine-clause-order g c =
    let input = input_state g.I.Source.left g.I.Source.faults c.args.input.now in
    let here = c.in-PlanLine in
    let order = plan_order c.deref.result.now here.form here.machines in
    let old : Left → Outside = λ input. outside
    (shelf_state g.H.Shelf.files g.H.Shelf.loads g.H.Shelf.stores c.args.shelf.now)
    (sink_state g.O.Sink.held g.O.Sink.faults g.O.Sink.spare c.args.out.now) input in
    let new : Left → Outside = λ input. outside
    (shelf_state g.H.Shelf.files g.H.Shelf.loads g.H.Shelf.stores c.show_plan.new.shelf)
    (sink_state g.O.Sink.held g.O.Sink.faults g.O.Sink.spare c.show_plan.new.out) input in
    let ended = fault_after c.show_plan.result in
    as_order (IsPlayed g.S.Site.work) order _ (old input) (new input) ended
    (ap (λ (name : List ℕ). plan_order name here.form here.machines) c.deref.ensures
    ∙ ap (λ (line : Line). asked (line_view line)) (sym here.is))
    (unplayed (IsPlayed g.S.Site.work) order (old input) (new input) ended (c.show_plan.ensures.order input))

pub returns-in-ShowLine-clause-order : goal.returns-in-ShowLine-clause-order
returns-in-ShowLine-clause-order g c =
    let input = input_state g.I.Source.left g.I.Source.faults c.args.input.now in
    let order = show_order c.deref-in-ShowLine.result.now in
    let old : Left → Outside = λ input. outside
    (shelf_state g.H.Shelf.files g.H.Shelf.loads g.H.Shelf.stores c.args.shelf.now)
    (sink_state g.O.Sink.held g.O.Sink.faults g.O.Sink.spare c.args.out.now) input in
    let new : Left → Outside = λ input. outside
    (shelf_state g.H.Shelf.files g.H.Shelf.loads g.H.Shelf.stores c.show_program.new.shelf)
    (sink_state g.O.Sink.held g.O.Sink.faults g.O.Sink.spare c.show_program.new.out) input in
    let ended = fault_after c.show_program.result in
    as_order (IsPlayed g.S.Site.work) order _ (old input) (new input) ended
    (ap show_order c.deref-in-ShowLine.ensures
    ∙ ap (λ (line : Line). asked (line_view line)) (sym c.in-ShowLine.is))
    (unplayed (IsPlayed g.S.Site.work) order (old input) (new input) ended (c.show_program.ensures.order input))

pub returns-in-FreeLine-clause-order : goal.returns-in-FreeLine-clause-order
returns-in-FreeLine-clause-order g c =
    let input = input_state g.I.Source.left g.I.Source.faults c.args.input.now in
    let order = free_order c.deref-in-FreeLine.result.now in
    let old : Left → Outside = λ input. outside
    (shelf_state g.H.Shelf.files g.H.Shelf.loads g.H.Shelf.stores c.args.shelf.now)
    (sink_state g.O.Sink.held g.O.Sink.faults g.O.Sink.spare c.args.out.now) input in
    let new : Left → Outside = λ input. outside
    (shelf_state g.H.Shelf.files g.H.Shelf.loads g.H.Shelf.stores c.tell_freedom.new.shelf)
    (sink_state g.O.Sink.held g.O.Sink.faults g.O.Sink.spare c.tell_freedom.new.out) input in
    let ended = fault_after c.tell_freedom.result in
    as_order (IsPlayed g.S.Site.work) order _ (old input) (new input) ended
    (ap free_order c.deref-in-FreeLine.ensures
    ∙ ap (λ (line : Line). asked (line_view line)) (sym c.in-FreeLine.is))
    (unplayed (IsPlayed g.S.Site.work) order (old input) (new input) ended (c.tell_freedom.ensures.order input))

pub returns-in-RecordLine-clause-order : goal.returns-in-RecordLine-clause-order
returns-in-RecordLine-clause-order g c =
    let input = input_state g.I.Source.left g.I.Source.faults c.args.input.now in
    let here = c.in-RecordLine in
    as_order (IsPlayed g.S.Site.work) _ _ _ _ _
    (ap (λ (name : List ℕ). asked (RecordOf (job_view here.job) name here.machines here.seed here.lossy))
    c.deref-in-RecordLine.ensures
    ∙ ap (λ (line : Line). asked (line_view line)) (sym here.is))
    (c.record_line.ensures.order input)

pub returns-in-ReplayLine-clause-order : goal.returns-in-ReplayLine-clause-order
returns-in-ReplayLine-clause-order g c =
    let input = input_state g.I.Source.left g.I.Source.faults c.args.input.now in
    let here = c.in-ReplayLine in
    as_order (IsPlayed g.S.Site.work) _ _ _ _ _
    (ap (λ (name : List ℕ). replay_order (job_view here.job) name) c.deref-in-ReplayLine.ensures
    ∙ ap (λ (line : Line). asked (line_view line)) (sym here.is))
    (c.replay.ensures.order input)

pub returns-in-RenewLine-clause-order : goal.returns-in-RenewLine-clause-order
returns-in-RenewLine-clause-order g c =
    let input = input_state g.I.Source.left g.I.Source.faults c.args.input.now in
    let here = c.in-RenewLine in
    as_order (IsPlayed g.S.Site.work) _ _ _ _ _
    (ap (λ (name : List ℕ). renew_order name c.deref-in-RenewLine-2.result.now) c.deref-in-RenewLine.ensures
    ∙ ap (renew_order _) c.deref-in-RenewLine-2.ensures
    ∙ ap (λ (line : Line). asked (line_view line)) (sym here.is))
    (c.renew.ensures.order g.S.Site.work
    (sink_state g.O.Sink.held g.O.Sink.faults g.O.Sink.spare c.args.out.now) input)

pub returns-in-DemoLine-clause-order : goal.returns-in-DemoLine-clause-order
returns-in-DemoLine-clause-order g c =
    let input = input_state g.I.Source.left g.I.Source.faults c.args.input.now in
    as_order (IsPlayed g.S.Site.work) (demo_order c.in-DemoLine.seed c.in-DemoLine.machines) _ _ _ _
    (ap (λ (line : Line). asked (line_view line)) (sym c.in-DemoLine.is))
    (c.show.ensures (shelf_state g.H.Shelf.files g.H.Shelf.loads g.H.Shelf.stores c.args.shelf.now) input)

pub returns-in-ResumeLine-clause-order : goal.returns-in-ResumeLine-clause-order
returns-in-ResumeLine-clause-order g c =
    let input = input_state g.I.Source.left g.I.Source.faults c.args.input.now in
    let here = c.in-ResumeLine in
    as_order (IsPlayed g.S.Site.work) _ _ _ _ _
    (ap (λ (name : List ℕ). resume_order (job_view here.job) name here.machines) c.deref-in-ResumeLine.ensures
    ∙ ap (λ (line : Line). asked (line_view line)) (sym here.is)) (c.resume.ensures.order input)

pub returns-in-SplitLine-clause-order : goal.returns-in-SplitLine-clause-order
returns-in-SplitLine-clause-order g c =
    let here = c.in-SplitLine in
    part_order g.S.Site.work _ _ _ _ _
    (split_same _ _ _ _ _ _ here.form here.machines here.draws c.deref-in-SplitLine.ensures
    c.deref-in-SplitLine-2.ensures c.deref-in-SplitLine-3.ensures
    ∙ ap (λ (line : Line). asked (line_view line)) (sym here.is))
    (c.split.ensures.order g.S.Site.work (sink_state g.O.Sink.held g.O.Sink.faults g.O.Sink.spare c.args.out.now)
    (input_state g.I.Source.left g.I.Source.faults c.args.input.now))

pub returns-in-WorkerLine-clause-order : goal.returns-in-WorkerLine-clause-order
returns-in-WorkerLine-clause-order g c =
    part_order g.S.Site.work _ _ _ _ _
    (worker_same _ _ _ _ c.deref-in-WorkerLine.ensures c.deref-in-WorkerLine-2.ensures
    ∙ ap (λ (line : Line). asked (line_view line)) (sym c.in-WorkerLine.is))
    c.work.ensures.order
