-- There are as many rows as the count says.
use Rattle.std.proofs.Common.{length, ap, arith}
use Rattle.flat_table.proofs.GridLaws.{length-rows_of}
use Rattle.flat_table.proofs.grid.Grid.put_row.Goals as goal

pub copy_row-requires-clause-place : goal.copy_row-requires-clause-place
copy_row-requires-clause-place g c =
    omega (
      arith,
      ap (λ v. length v.rows) c.self.view_is,
      length-rows_of c.self.inside.width c.self.inside.count
          c.self.inside.cells.items,
      c.requires.place,
    )
