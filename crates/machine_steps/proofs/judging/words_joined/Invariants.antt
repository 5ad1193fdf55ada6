-- The words so far, and those that are left to join.
use Rattle.std.proofs.Common.{◌≡◌, ◌++◌, drop, length}
use Rattle.symple_face.specs.CoreJudge.{totals_joined}
use Rattle.machine_steps.proofs.judging.words_joined.Given as goal

abbrev pub invariant-loop-i : goal.invariant-loop-i
invariant-loop-i l = record {
  words : l.words.items ++ totals_joined (drop l.i l.totals) (drop l.i l.held) (drop l.i l.told)
      ≡ totals_joined l.totals l.held l.told;
  len : length l.words.items ≡ l.i;
}
