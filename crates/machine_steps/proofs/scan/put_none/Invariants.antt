-- The values so far.
use Rattle.std.proofs.Common.{◌≡◌, None, length, replicate}
use Rattle.machine_steps.proofs.scan.put_none.Given as goal

abbrev pub invariant-words : goal.invariant-words
invariant-words l = record {
  items : l.words.items ≡ replicate l.counter None;
  len : length l.words.items ≡ l.counter;
}
