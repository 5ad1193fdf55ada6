use Rattle.std.proofs.Common.{length}
use Rattle.machine_tests.proofs.steps.+are_placed.Given as goal

-- fewer lets are left
abbrev pub decreases-are_placed : goal.decreases-are_placed
decreases-are_placed l = length l.lets.now
