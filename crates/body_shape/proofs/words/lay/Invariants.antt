use Rattle.std.proofs.Common.{◌≡◌, ◌≤◌, ◌+◌, ◌-◌, ◌*◌, ◌++◌, length, drop, vec_len, vec_capacity}
use Rattle.body_shape.specs.Refresh.{words_bytes}
use Rattle.body_shape.proofs.words.lay.Given as goal

abbrev pub invariant-loop-word : goal.invariant-loop-word
invariant-loop-word l = record {
  room : vec_len l.bytes + 8 * (length l.words - l.word-index) ≤ vec_capacity l.bytes;
  len : vec_len l.bytes ≡ vec_len l.initial.bytes + 8 * l.word-index;
  capacity : vec_capacity l.initial.bytes ≤ vec_capacity l.bytes;
  whole : l.bytes.items ++ words_bytes (drop l.word-index l.words) ≡ l.initial.bytes.items ++ words_bytes l.words;
}
