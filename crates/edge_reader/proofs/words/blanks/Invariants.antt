use Rattle.std.proofs.Common.{◌≡◌, ◌+◌, drop}
use Rattle.std.specs.List.{position_or_len}
use Rattle.edge_reader.specs.Words.{is_word_byte}
use Rattle.edge_reader.proofs.words.blanks.Given as goal

abbrev pub invariant-loop-i : goal.invariant-loop-i
invariant-loop-i l = l.i + position_or_len is_word_byte (drop l.i l.text) ≡ position_or_len is_word_byte l.text
