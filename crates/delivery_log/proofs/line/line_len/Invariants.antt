use Rattle.std.proofs.Common.{◌≡◌, ◌+◌, drop}
use Rattle.std.specs.List.{position_or_len}
use Rattle.delivery_log.specs.LineReading.{is_line_end}
use Rattle.delivery_log.proofs.line.line_len.Given as goal

abbrev pub invariant-loop-i : goal.invariant-loop-i
invariant-loop-i l = l.i + position_or_len is_line_end (drop l.i l.text) ≡ position_or_len is_line_end l.text
