use Rattle.std.proofs.Common.{◌≡◌, ◌-◌, ◌++◌, length, drop}
use Rattle.dep_layout.specs.Judgement.{words_in}
use Rattle.body_shape.proofs.words.read_words.Given as goal

abbrev pub invariant-words : goal.invariant-words
invariant-words g l = record {
  count : length l.words.items ≡ l.counter;
  whole : l.words.items ++ words_in (l.count - l.counter) l.rest ≡ words_in l.count (drop l.place l.bytes);
}
