use Rattle.std.proofs.Common.{length}
use Rattle.machine_tests.proofs.steps.+list_names.Given as goal

-- each call is on a shorter list
abbrev pub decreases-list_names : goal.decreases-list_names
decreases-list_names l = length l.list.now
