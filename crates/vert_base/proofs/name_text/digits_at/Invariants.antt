use Rattle.std.proofs.Common.{length, ◌-◌, ◌≤◌, take}
use Rattle.std.specs.Str.Parse.{AllDigits}
use Rattle.vert_base.proofs.name_text.digits_at.Given as goal

abbrev pub invariant-digits : goal.invariant-digits
invariant-digits l = record { within : l.count ≤ length l.text; digits : AllDigits 10 (take l.count l.text) }

abbrev pub decreases-digits : goal.decreases-digits
decreases-digits l = length l.text - l.count
