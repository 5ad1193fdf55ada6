use Rattle.std.proofs.Common.{◌≡◌, ◌++◌, map, take}
use Rattle.body_shape.specs.Refresh.{plain_row, refresh_body}
use Rattle.check_point.proofs.write.put_rows.Given as goal

-- the rows so far are written
abbrev pub invariant-loop-row : goal.invariant-loop-row
invariant-loop-row l = l.bytes.items ≡ l.fn.bytes.items ++ refresh_body (map plain_row (take l.row-index l.rows))
