use Rattle.std.proofs.Common.{◌++◌, codes, flat_map, take, Ok}
use Rattle.array_text.specs.Tables.{name_text}
use Rattle.array_text.specs.Writes.{Writes}
use Rattle.array_text.proofs.header.write_header.Given as goal

abbrev pub invariant-loop-field : goal.invariant-loop-field
invariant-loop-field g l = Writes g.O.Sink.held g.O.Sink.faults g.O.Sink.spare l.fn.out l.out
    (codes "vertex" ++ flat_map (name_text l.split.program.program)
    (take l.field-index l.split.program.program.fields.items)) (Ok tt)
