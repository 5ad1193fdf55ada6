-- A row stands between the rows before it and those behind it.
use Rattle.std.proofs.Common.{take, sym, ap, ◌∙◌, arith}
use Rattle.flat_table.proofs.GridLaws.{cell_small, cell_within, row_is}
use Rattle.flat_table.proofs.grid.row_in.Goals as goal

pub overflow_mul-start : goal.overflow_mul-start
overflow_mul-start g c = omega (
  arith,
  cell_small c.args.width c.args.count c.args.place c.requires.width
      c.requires.count c.requires.place,
)

pub split_at-requires : goal.split_at-requires
split_at-requires g c = omega (
  arith,
  cell_within c.args.width c.args.count c.args.place c.requires.place,
  c.requires.cells,
)

pub split_at-requires-2 : goal.split_at-requires-2
split_at-requires-2 g c = omega (
  arith,
  cell_within c.args.width c.args.count c.args.place c.requires.place,
  c.requires.cells,
  c.split_at.ensures.back_len,
)

pub returns : goal.returns
returns g c =
    c.split_at-2.ensures.front
    ∙ ap (take c.args.width) c.split_at.ensures.back
    ∙ sym (row_is c.args.width c.args.count c.args.place c.args.cells.now c.requires.place)
