use Rattle.std.proofs.Common.{◌≡◌, ◌++◌, take}
use Rattle.body_shape.specs.Refresh.{words_bytes}
use Rattle.check_point.proofs.write.put_totals.Given as goal

-- the words so far are written
abbrev pub invariant-loop-total : goal.invariant-loop-total
invariant-loop-total l = l.bytes.items ≡ l.fn.bytes.items ++ words_bytes (take l.total-index l.totals)
