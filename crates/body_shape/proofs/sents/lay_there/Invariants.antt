use Rattle.std.proofs.Common.{◌≡◌, ◌≤◌, ◌+◌, ◌-◌, ◌*◌, ◌++◌, length, drop, vec_len, vec_capacity}
use Rattle.body_shape.specs.Places.{there}
use Rattle.body_shape.specs.Refresh.{words_bytes}
use Rattle.body_shape.proofs.sents.lay_there.Given as goal

abbrev pub invariant-loop-value : goal.invariant-loop-value
invariant-loop-value l = record {
  room : vec_len l.bytes + 8 * (length l.values - l.value-index) ≤ vec_capacity l.bytes;
  len : vec_len l.bytes ≤ vec_len l.initial.bytes + 8 * l.value-index;
  capacity : vec_capacity l.initial.bytes ≤ vec_capacity l.bytes;
  whole : l.bytes.items ++ words_bytes (there (drop l.value-index l.values)) ≡ l.initial.bytes.items
      ++ words_bytes (there l.values);
}
