use Rattle.std.proofs.Common.{◌≡◌, ◌++◌, drop}
use Rattle.std.specs.List.{flat_map}
use Rattle.dep_layout.specs.Spelling.{word_bytes}
use Rattle.dep_layout.proofs.words.push_words.Given as goal

abbrev pub invariant-loop-word : goal.invariant-loop-word
invariant-loop-word g l = l.bytes.items ++ flat_map word_bytes (drop l.word-index l.words.at) ≡ l.initial.bytes.items
    ++ flat_map word_bytes l.words.at
