use Rattle.std.proofs.Common.{◌≡◌, drop}
use Rattle.value_laws.specs.Blind.{is_quiet}
use Rattle.vertex_work.proofs.quiet.is_quiet.Given as goal

-- what is left tells what all tells
abbrev pub invariant-loop-stmt : goal.invariant-loop-stmt
invariant-loop-stmt l = is_quiet (drop l.stmt-index l.update) ≡ is_quiet l.update
