-- The counts so far.
use Rattle.std.proofs.Common.{◌≡◌, ◌<◌, ◌≤◌, ◌+◌, ℕ, get_or, length}
use Rattle.machine_steps.proofs.noting.write_counts.Given as goal

abbrev pub invariant-loop-i : goal.invariant-loop-i
invariant-loop-i l = record {
  size : length l.reading.items ≡ length l.initial.reading.items;
  before : (k : ℕ) → k < l.from → get_or l.reading.items k 0 ≡ get_or l.initial.reading.items k 0;
  within : (k : ℕ) → k < l.i → get_or l.reading.items (l.from + k) 0 ≡ get_or l.counts k 0;
  behind : (k : ℕ) → l.from + l.i ≤ k → get_or l.reading.items k 0 ≡ get_or l.initial.reading.items k 0;
}
