use Rattle.std.proofs.Common.{◌≡◌, map, take}
use Rattle.body_shape.specs.Refresh.{rows_read}
use Rattle.symple_face.specs.CoreSight.{told_row}
use Rattle.check_point.proofs.read.rows_of.Given as goal

-- the first rows are read
abbrev pub invariant-loop-place : goal.invariant-loop-place
invariant-loop-place l = l.rows.items ≡ take l.place (map told_row (rows_read l.fields l.vertices l.body))
