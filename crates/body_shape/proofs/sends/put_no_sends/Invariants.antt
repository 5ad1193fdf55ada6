use Rattle.std.proofs.Common.{◌≡◌, ◌≤◌, ◌+◌, ◌++◌, replicate, vec_len, vec_capacity}
use Rattle.body_shape.proofs.sends.put_no_sends.Given as goal

abbrev pub invariant-bytes : goal.invariant-bytes
invariant-bytes l = record {
  room : vec_len l.initial.bytes + l.count ≤ vec_capacity l.bytes;
  len : vec_len l.bytes ≡ vec_len l.initial.bytes + l.counter;
  capacity : vec_capacity l.initial.bytes ≤ vec_capacity l.bytes;
  whole : l.bytes.items ≡ l.initial.bytes.items ++ replicate l.counter 0;
}
