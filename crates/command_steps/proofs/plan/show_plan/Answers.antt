use Rattle.std.proofs.lemmas.Result.{err_from_is_err_and}
use Rattle.edge_reader.specs.Gives.{graph_of_edges}
use Rattle.command_steps.specs.Orders.{Ends, NoTask, Puts}
use Rattle.command_steps.specs.Outputs.{plan_text}
use Rattle.command_steps.specs.States.{sink_state}
use Rattle.command_steps.proofs.WalkLaws.{graph_goes, graph_stops, put_ends}
use Rattle.command_steps.proofs.plan.show_plan.Goals as goal

pub returns-in_err-edges-clause-order : goal.returns-in_err-edges-clause-order
returns-in_err-edges-clause-order g c =
    let p = err_from_is_err_and c.from_residual.result c.from_residual.ensures.1 in
    rw (p.1, p.2) (λ input. graph_stops NoTask _ _ c.args.form.now c.args.name.now _ c.in_err-edges.ensures.graph
    (λ bytes graph. Puts (plan_text c.args.machines graph) Ends) _ input)

pub returns-clause-order : goal.returns-clause-order
returns-clause-order g c =
    let out = sink_state g.O.Sink.held g.O.Sink.faults g.O.Sink.spare c.args.out.now in
    let after = sink_state g.O.Sink.held g.O.Sink.faults g.O.Sink.spare c.lay_out.new.out in
    let graph = graph_of_edges c.in_ok-edges.edges in
    λ input. graph_goes NoTask _ _ c.args.form.now c.args.name.now graph c.in_ok-edges.ensures.graph (λ bytes graph.
    Puts (plan_text c.args.machines graph) Ends) out input _ _
    (put_ends NoTask (plan_text c.args.machines graph) out after c.lay_out.result c.lay_out.ensures _ input)
