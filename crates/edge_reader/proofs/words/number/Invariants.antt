use Rattle.std.proofs.Common.{◌≡◌, take, true, min}
use Rattle.std.specs.List.{list_all}
use Rattle.edge_reader.specs.Words.{value_of}
use Rattle.vert_base.specs.Digits.{is_digit}
use Rattle.edge_reader.proofs.words.number.Given as goal

abbrev pub invariant-loop-byte : goal.invariant-loop-byte
invariant-loop-byte l = record {
  digits : list_all is_digit (take l.byte-index l.word) ≡ true;
  value : l.value ≡ min (value_of (take l.byte-index l.word)) 1099511627776;
}
