use Rattle.std.proofs.Common.{arith}
use Rattle.command_steps.specs.States.{sink_state}
use Rattle.command_steps.proofs.FlushLaws.{flushed}
use Rattle.command_steps.proofs.output.flush.Goals as goal

pub returns-in-Ok : goal.returns-in-Ok
returns-in-Ok g c =
    let old = sink_state g.O.Sink.held g.O.Sink.faults g.O.Sink.spare c.args.out.now in
    let new = sink_state g.O.Sink.held g.O.Sink.faults g.O.Sink.spare c.put.new.self in
    flushed old new c.in-Ok.field-0 c.in-Ok.ensures.held c.in-Ok.ensures.counted c.in-Ok.ensures.within
    c.in-Ok.ensures.spared

pub returns-in-Err : goal.returns-in-Err
returns-in-Err g c = (c.in-Err.ensures.nothing, c.in-Err.ensures.failed, omega (arith, c.in-Err.ensures.sure))
