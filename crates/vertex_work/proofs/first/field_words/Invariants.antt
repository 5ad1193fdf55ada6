use Rattle.std.proofs.Common.{◌≡◌, map, length, take}
use Rattle.vert_eval.specs.Values.{value_of}
use Rattle.vertex_work.proofs.first.field_words.Given as goal

abbrev pub invariant-loop-field : goal.invariant-loop-field
invariant-loop-field l = record {
  words : l.words.items ≡ map (λ d. value_of d.value l.env) (take l.field-index l.fields);
  len : length l.words.items ≡ l.field-index;
}
