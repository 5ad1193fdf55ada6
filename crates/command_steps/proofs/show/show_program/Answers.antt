use Rattle.std.proofs.Common.{subst}
use Rattle.std.proofs.lemmas.Result.{err_from_is_err_and}
use Rattle.instrument.specs.Shown.{shown}
use Rattle.command_steps.specs.Orders.{Ends, Puts}
use Rattle.command_steps.specs.Orders.{NoTask}
use Rattle.command_steps.specs.States.{sink_state}
use Rattle.command_steps.specs.Walks.{Plays}
use Rattle.command_steps.proofs.WalkLaws.{program_goes, program_stops, put_ends}
use Rattle.vert_tree.specs.declared.typed.Typed.{Typed}
use Rattle.command_steps.proofs.show.show_program.Goals as goal

pub returns-in_err-typed-clause-order : goal.returns-in_err-typed-clause-order
returns-in_err-typed-clause-order g c =
    let p = err_from_is_err_and c.from_residual.result c.from_residual.ensures.1 in
    rw (p.1, p.2) (λ input. program_stops NoTask _ _ c.args.name.now _ c.in_err-typed.ensures.program (λ text program.
    Puts (shown program) Ends) _ input)

pub returns-clause-order : goal.returns-clause-order
returns-clause-order g c =
    let old = sink_state g.O.Sink.held g.O.Sink.faults g.O.Sink.spare c.args.out.now in
    let new = sink_state g.O.Sink.held g.O.Sink.faults g.O.Sink.spare c.put_shown.new.out in
    let P : Typed → Type 0 = λ typed. Plays (shown typed.program) old new c.put_shown.result in
    λ input. program_goes NoTask _ _ c.args.name.now c.in_ok-typed.typed c.in_ok-typed.ensures.program
    (λ text program. Puts (shown program) Ends) old input _ _
    (put_ends NoTask (shown c.in_ok-typed.typed.program) old new c.put_shown.result
    (subst P c.split_of.ensures c.put_shown.ensures) _ input)
