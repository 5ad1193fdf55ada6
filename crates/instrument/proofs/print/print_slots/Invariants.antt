use Rattle.std.proofs.Common.{◌≡◌, ◌++◌, drop}
use Rattle.std.specs.String.{string_bytes}
use Rattle.instrument.specs.Shown.{slot_lines}
use Rattle.instrument.proofs.print.print_slots.Given as goal

-- what is written and the lines of what is left are what was there and all lines
abbrev pub invariant-lines : goal.invariant-lines
invariant-lines l =
    string_bytes l.out ++ slot_lines l.names l.slots (drop l.place-index l.emitted)
    ≡ string_bytes l.initial.out ++ slot_lines l.names l.slots l.emitted
