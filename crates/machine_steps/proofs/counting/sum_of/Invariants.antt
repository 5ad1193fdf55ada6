-- The sum so far.
use Rattle.std.proofs.Common.{◌≡◌, ◌≤◌, ◌*◌, take}
use Rattle.std.specs.Prelude.{sum}
use Rattle.machine_steps.proofs.counting.sum_of.Given as goal

abbrev pub invariant-loop-count : goal.invariant-loop-count
invariant-loop-count l = record {
  sum : l.sum ≡ sum (take l.count-index l.counts);
  low : l.sum ≤ 4294967296 * l.count-index;
}
