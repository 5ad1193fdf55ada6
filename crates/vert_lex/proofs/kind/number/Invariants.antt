use Rattle.std.proofs.Common.{◌≡◌, ◌≤◌, drop}
use Rattle.std.specs.Str.Parse.{digits_value, digits_value_after}
use Rattle.vert_lex.proofs.kind.number.Given as goal

abbrev pub invariant-digits : goal.invariant-digits
invariant-digits l = record {
  within : l.value ≤ 9223372036854775807;
  passed : digits_value_after 10 l.value (drop l.b-index l.digits) ≡ digits_value 10 l.digits;
}
