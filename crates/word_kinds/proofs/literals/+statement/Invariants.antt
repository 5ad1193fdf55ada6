use Rattle.std.proofs.Common.{◌≡◌, true, take}
use Rattle.word_kinds.specs.Fits.{body_fits}
use Rattle.word_kinds.proofs.literals.+statement.Given as goal

abbrev pub invariant-body_is_fit-loop-stmt : goal.invariant-body_is_fit-loop-stmt
invariant-body_is_fit-loop-stmt l = body_fits (take l.stmt-index l.body) ≡ true
