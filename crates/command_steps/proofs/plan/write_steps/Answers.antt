use Rattle.std.proofs.Common.{◌<◌, ap, arith}
use Rattle.std.specs.List.{range_with_len}
use Rattle.command_steps.specs.Outputs.{machines_text}
use Rattle.command_steps.proofs.TextLaws.{all_numbers, all_put, below_numbers, number_at, one_failed, one_more}
use Rattle.command_steps.proofs.plan.write_steps.Goals as goal

pub returns-in_err-write_machines : goal.returns-in_err-write_machines
returns-in_err-write_machines g c =
    let n = c.args.machines in
    let i = c.steps.step in
    let below : i < n = omega arith in
    one_failed (machines_text c.args.machines) (range_with_len 0 n) i 0 (below_numbers n i below)
    (ap (machines_text c.args.machines) (number_at n i below)) c.steps.invariant c.from_residual.result
    c.from_residual.ensures.0 c.in_err-write_machines.ensures

pub steps-preserved : goal.steps-preserved
steps-preserved g c =
    let n = c.args.machines in
    let i = c.steps.step in
    let below : i < n = omega arith in
    one_more (machines_text c.args.machines) (range_with_len 0 n) i 0 (below_numbers n i below)
    (ap (machines_text c.args.machines) (number_at n i below)) c.steps.invariant c.in_ok-write_machines.ensures

pub returns : goal.returns
returns g c =
    all_put (machines_text c.args.machines) (range_with_len 0 c.args.machines) c.steps.step
    (all_numbers c.args.machines c.steps.step (omega arith)) c.steps.invariant
