use Rattle.std.proofs.Common.{◌≡◌, false}
use Rattle.run_tests.proofs.schedules.check_cuts.Given as goal

-- no want of memory has ended the machines
abbrev pub invariant-bytes : goal.invariant-bytes
invariant-bytes g l = l.cluster.ended ≡ false
