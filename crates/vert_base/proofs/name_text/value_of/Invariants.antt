use Rattle.std.proofs.Common.{◌≡◌, ◌<◌, ◌^◌, take}
use Rattle.std.specs.Str.Parse.{AllDigits, digits_value}
use Rattle.vert_base.proofs.name_text.value_of.Given as goal

abbrev pub invariant-digits : goal.invariant-digits
invariant-digits l = record {
  within : l.value < 2 ^ 32;
  digits : AllDigits 10 (take l.byte-index l.word);
  passed : digits_value 10 (take l.byte-index l.word) ≡ l.value;
}
