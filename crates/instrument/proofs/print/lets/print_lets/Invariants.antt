use Rattle.std.proofs.Common.{◌≡◌, ◌++◌, drop}
use Rattle.std.specs.String.{string_bytes}
use Rattle.instrument.specs.Shown.{let_lines}
use Rattle.instrument.proofs.print.lets.print_lets.Given as goal

-- what is written and the lines of what is left are what was there and all lines
abbrev pub invariant-lines : goal.invariant-lines
invariant-lines l =
    string_bytes l.out ++ let_lines l.line l.names (drop l.i l.lets) (drop l.i l.classes)
    ≡ string_bytes l.initial.out ++ let_lines l.line l.names l.lets l.classes
