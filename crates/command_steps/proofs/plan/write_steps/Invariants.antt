use Rattle.std.proofs.Common.{take, flat_map, Ok}
use Rattle.std.specs.List.{range_with_len}
use Rattle.array_text.specs.Writes.{Writes}
use Rattle.command_steps.specs.Outputs.{machines_text}
use Rattle.command_steps.proofs.plan.write_steps.Given as goal

-- the lines of the steps so far are written
abbrev pub invariant-steps : goal.invariant-steps
invariant-steps g l =
    Writes g.O.Sink.held g.O.Sink.faults g.O.Sink.spare l.fn.out l.out
    (flat_map (machines_text l.machines) (take l.step (range_with_len 0 l.machines))) (Ok tt)
