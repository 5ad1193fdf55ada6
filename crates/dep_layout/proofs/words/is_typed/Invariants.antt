use Rattle.std.proofs.Common.{◌≡◌, ◌≤◌, ◌-◌, ◌*◌, length}
use Rattle.dep_layout.specs.Spelling.{are_typed}
use Rattle.dep_layout.specs.Judgement.{words_in}
use Rattle.dep_layout.proofs.words.is_typed.Given as goal

abbrev pub invariant-words : goal.invariant-words
invariant-words l = record {
  room : 8 * (l.width - l.counter) ≤ length l.rest;
  whole : are_typed l.left (words_in (l.width - l.counter) l.rest) ≡ are_typed l.bools (words_in l.width l.bytes);
}
