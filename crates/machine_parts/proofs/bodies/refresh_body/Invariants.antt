-- The rows so far.
use Rattle.std.proofs.Common.{◌≡◌, ◌-◌, map, take}
use Rattle.vert_eval.specs.Rounds.{row_at}
use Rattle.body_shape.specs.Refresh.{plain_row, refresh_body}
use Rattle.machine_parts.proofs.bodies.refresh_body.Given as goal

abbrev pub invariant-loop-vertex : goal.invariant-loop-vertex
invariant-loop-vertex l = l.body.items ≡ refresh_body (map (λ v. plain_row (row_at l.rows.rows (v.0 - l.start)))
    (take l.vertex-index l.list))
