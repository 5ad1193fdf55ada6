-- The counts so far.
use Rattle.std.proofs.Common.{◌≡◌, length}
use Rattle.machine_steps.proofs.scanning.no_counts.Given as goal

abbrev pub invariant-counts : goal.invariant-counts
invariant-counts l = length l.counts.items ≡ l.counter
