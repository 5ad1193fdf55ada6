-- The places so far have the row.
use Rattle.std.proofs.Common.{◌≡◌}
use Rattle.vertex_work.proofs.PassLaws.{passed}
use Rattle.machine_core.proofs.making.put_in_each.Given as goal

abbrev pub invariant-places : goal.invariant-places
invariant-places l = record {
  rows : l.grid.rows ≡ passed (λ v. l.row) 0 l.initial.grid.rows l.place;
  width : l.grid.width ≡ l.initial.grid.width;
}
