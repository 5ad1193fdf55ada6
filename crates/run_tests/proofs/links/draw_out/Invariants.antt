use Rattle.std.proofs.Common.{◌≡◌, false}
use Rattle.run_tests.proofs.links.draw_out.Given as goal

-- no want of memory has ended the machines
abbrev pub invariant-events : goal.invariant-events
invariant-events g l = l.links.ended ≡ false
