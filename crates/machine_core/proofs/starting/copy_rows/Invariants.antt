-- The vertices so far have their rows.
use Rattle.std.proofs.Common.{◌≡◌}
use Rattle.vert_base.specs.Ends.{start_of}
use Rattle.vert_eval.specs.Rounds.{row_at}
use Rattle.vertex_work.proofs.PassLaws.{passed}
use Rattle.machine_core.proofs.starting.copy_rows.Given as goal

abbrev pub invariant-places : goal.invariant-places
invariant-places l = record {
  rows : l.rows.rows ≡ passed (row_at l.all) (start_of l.ground.part.cuts l.ground.part.at.machine) l.initial.rows.rows
      l.place;
  width : l.rows.width ≡ l.initial.rows.width;
}
