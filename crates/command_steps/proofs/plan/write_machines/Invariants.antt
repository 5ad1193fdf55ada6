use Rattle.std.proofs.Common.{take, flat_map, Ok}
use Rattle.std.specs.List.{range_with_len}
use Rattle.array_text.specs.Writes.{Writes}
use Rattle.command_steps.specs.Outputs.{step_text}
use Rattle.command_steps.proofs.plan.write_machines.Given as goal

-- the lines of the machines so far are written
abbrev pub invariant-machines : goal.invariant-machines
invariant-machines g l =
    Writes g.O.Sink.held g.O.Sink.faults g.O.Sink.spare l.fn.out l.out
    (flat_map (step_text l.machines l.step) (take l.machine (range_with_len 0 l.machines))) (Ok tt)
