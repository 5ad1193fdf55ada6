-- The vertices so far have their rows.
use Rattle.std.proofs.Common.{◌≡◌}
use Rattle.vert_base.specs.Ends.{start_of}
use Rattle.symple_face.specs.CoreFirst.{first_row_of}
use Rattle.symple_face.specs.PartViews.{plain_of}
use Rattle.vertex_work.specs.Firsts.{IsBlank}
use Rattle.vertex_work.proofs.PassLaws.{passed}
use Rattle.vertex_work.proofs.first.fill_rows.Given as goal

abbrev pub invariant-places : goal.invariant-places
invariant-places l =
    let part = plain_of l.ground.part in
    record {
      rows : l.rows.rows ≡ passed (first_row_of part l.ground.part.split.value)
          (start_of part.ends part.at.machine) l.initial.rows.rows l.place;
      width : l.rows.width ≡ l.initial.rows.width;
      blank : IsBlank part l.env;
    }
