-- The edges of the vertices so far.
use Rattle.std.proofs.Common.{◌≡◌, ◌*◌, ◌^◌, ◌≤◌, map}
use Rattle.std.specs.Prelude.{sum}
use Rattle.std.specs.List.{range_with_len}
use Rattle.machine_parts.specs.Counting.{edges_at}
use Rattle.machine_parts.proofs.counting.edges_ahead.Given as goal

abbrev pub invariant-places : goal.invariant-places
invariant-places l = record {
  edges : l.edges ≡ sum (map (edges_at l.rows.rows l.degrees) (range_with_len 0 l.place));
  few : l.edges ≤ l.place * 2 ^ 32;
}
