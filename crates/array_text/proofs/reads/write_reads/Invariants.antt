use Rattle.std.proofs.Common.{flat_map, take, Ok}
use Rattle.array_text.specs.Reads.{source_text}
use Rattle.array_text.specs.Writes.{Writes}
use Rattle.array_text.proofs.reads.write_reads.Given as goal

-- the sources so far are written
abbrev pub invariant-loop-source : goal.invariant-loop-source
invariant-loop-source g l = Writes g.O.Sink.held g.O.Sink.faults g.O.Sink.spare l.fn.out l.out
    (flat_map (λ u. source_text u.0) (take l.source-index l.sources)) (Ok tt)
