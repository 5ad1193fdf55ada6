use Rattle.std.proofs.Common.{◌≡◌, drop}
use Rattle.instrument.specs.Loops.{body_emits}
use Rattle.instrument.proofs.split.+emits.Given as goal

-- what is left tells what all tells
abbrev pub invariant-body_emits-loop-stmt : goal.invariant-body_emits-loop-stmt
invariant-body_emits-loop-stmt l = body_emits l.slot (drop l.stmt-index l.body) ≡ body_emits l.slot l.body
