-- A cell is one of all, and few enough for a number of 64 bits.
use Rattle.std.proofs.Common.{arith}
use Rattle.flat_table.proofs.GridLaws.{cell_small, cell_within}
use Rattle.flat_table.proofs.grid.cell_of.Goals as goal

pub overflow_mul-result : goal.overflow_mul-result
overflow_mul-result c = omega (
  arith,
  cell_small c.args.width c.args.count c.args.place c.requires.width
      c.requires.count c.requires.place,
)

pub overflow_add-result : goal.overflow_add-result
overflow_add-result c =
    omega (
      arith,
      cell_small c.args.width c.args.count c.args.place c.requires.width c.requires.count
          c.requires.place,
      c.requires.column,
    )

pub returns-clause-within : goal.returns-clause-within
returns-clause-within c = omega (
  arith,
  cell_within c.args.width c.args.count c.args.place c.requires.place,
  c.requires.column,
)
