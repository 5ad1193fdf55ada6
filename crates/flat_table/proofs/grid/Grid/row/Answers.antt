-- There are as many rows as the count says.
use Rattle.std.proofs.Common.{length, ap, arith}
use Rattle.flat_table.proofs.GridLaws.{length-rows_of}
use Rattle.flat_table.proofs.grid.Grid.row.Goals as goal

pub row_in-requires-clause-place : goal.row_in-requires-clause-place
row_in-requires-clause-place g c =
    omega (
      arith,
      ap (λ v. length v.rows) c.self.view_is,
      length-rows_of c.self.inside.width c.self.inside.count c.self.inside.cells.items,
      c.requires,
    )
