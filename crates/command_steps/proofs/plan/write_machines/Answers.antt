use Rattle.std.proofs.Common.{◌<◌, ap, arith}
use Rattle.std.specs.List.{range_with_len}
use Rattle.command_steps.specs.Outputs.{step_text}
use Rattle.command_steps.proofs.TextLaws.{all_numbers, all_put, below_numbers, number_at, one_failed, one_more}
use Rattle.command_steps.proofs.plan.write_machines.Goals as goal

pub returns-in_err-write_step : goal.returns-in_err-write_step
returns-in_err-write_step g c =
    let n = c.args.machines in
    let i = c.machines.machine in
    let below : i < n = omega arith in
    one_failed (step_text c.args.machines c.args.step) (range_with_len 0 n) i 0 (below_numbers n i below)
    (ap (step_text c.args.machines c.args.step) (number_at n i below)) c.machines.invariant c.from_residual.result
    c.from_residual.ensures.0 c.in_err-write_step.ensures

pub machines-preserved : goal.machines-preserved
machines-preserved g c =
    let n = c.args.machines in
    let i = c.machines.machine in
    let below : i < n = omega arith in
    one_more (step_text c.args.machines c.args.step) (range_with_len 0 n) i 0 (below_numbers n i below)
    (ap (step_text c.args.machines c.args.step) (number_at n i below)) c.machines.invariant
    c.in_ok-write_step.ensures

pub returns : goal.returns
returns g c =
    all_put (step_text c.args.machines c.args.step) (range_with_len 0 c.args.machines) c.machines.machine
    (all_numbers c.args.machines c.machines.machine (omega arith)) c.machines.invariant
