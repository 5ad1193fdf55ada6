-- The words of the totals so far.
use Rattle.std.proofs.Common.{◌≡◌, length, map, take}
use Rattle.slot_merge.specs.Combine.{neutral}
use Rattle.machine_parts.proofs.totals.first_words.Given as goal

abbrev pub invariant-loop-total : goal.invariant-loop-total
invariant-loop-total l = record {
  words : l.words.items ≡ map (λ t. neutral t.op) (take l.total-index l.totals);
  len : length l.words.items ≡ l.total-index;
}
