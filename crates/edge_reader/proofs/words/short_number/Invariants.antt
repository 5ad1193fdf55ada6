-- The bytes so far are digits, their value is this number, and so few digits have no larger one.
use Rattle.std.proofs.Common.{◌≡◌, ◌<◌, ◌^◌, take, true}
use Rattle.std.specs.List.{list_all}
use Rattle.edge_reader.specs.Words.{value_of}
use Rattle.vert_base.specs.Digits.{is_digit}
use Rattle.edge_reader.proofs.words.short_number.Given as goal

abbrev pub invariant-loop-i : goal.invariant-loop-i
invariant-loop-i l = record {
  digits : list_all is_digit (take l.i l.text) ≡ true;
  value : l.value ≡ value_of (take l.i l.text);
  small : l.value < 10 ^ l.i;
}
