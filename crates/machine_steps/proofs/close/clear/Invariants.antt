-- The counts so far.
use Rattle.std.proofs.Common.{◌≡◌, take, replicate}
use Rattle.machine_steps.proofs.close.clear.Given as goal

abbrev pub invariant-loop-count : goal.invariant-loop-count
invariant-loop-count l = take l.count-index l.counts ≡ replicate l.count-index 0
