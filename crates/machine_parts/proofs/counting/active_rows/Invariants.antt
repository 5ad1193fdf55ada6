-- The rows so far are counted.
use Rattle.std.proofs.Common.{◌≡◌, ◌≤◌, length, take}
use Rattle.std.specs.List.{filter}
use Rattle.machine_parts.proofs.counting.active_rows.Given as goal

abbrev pub invariant-places : goal.invariant-places
invariant-places l = record {
  active : l.active ≡ length (filter (λ r. r.active) (take l.place l.rows.rows));
  few : l.active ≤ l.place;
}
