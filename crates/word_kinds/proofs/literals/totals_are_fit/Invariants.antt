use Rattle.std.proofs.Common.{◌≡◌, true, take}
use Rattle.word_kinds.specs.Fits.{totals_fit}
use Rattle.word_kinds.proofs.literals.totals_are_fit.Given as goal

abbrev pub invariant-loop-total : goal.invariant-loop-total
invariant-loop-total l = totals_fit (take l.total-index l.totals) ≡ true
