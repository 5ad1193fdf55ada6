use Rattle.std.proofs.Common.{take, flat_map, length, Ok}
use Rattle.std.specs.List.{range_with_len}
use Rattle.array_text.specs.Writes.{Writes}
use Rattle.command_steps.specs.Outputs.{chunk_line}
use Rattle.command_steps.proofs.plan.write_chunks.Given as goal

-- the lines of the chunks so far are written
abbrev pub invariant-chunks : goal.invariant-chunks
invariant-chunks g l =
    Writes g.O.Sink.held g.O.Sink.faults g.O.Sink.spare l.fn.out l.out
    (flat_map (chunk_line l.cuts) (take l.chunk (range_with_len 0 (length l.cuts)))) (Ok tt)
