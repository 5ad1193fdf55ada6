use Rattle.std.proofs.Common.{◌≡◌, ◌++◌, take}
use Rattle.vert_base.specs.NameTexts.{numbers_text}
use Rattle.delivery_log.proofs.spelling.push_numbers.Given as goal

abbrev pub invariant-loop-number : goal.invariant-loop-number
invariant-loop-number l = l.bytes.items ≡ l.fn.bytes.items ++ numbers_text (take l.number-index l.numbers)
