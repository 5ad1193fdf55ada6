-- The value stands in one cell of one row.
use Rattle.std.proofs.Common.{◌≡◌, ◌<◌, length, get_or, set, ap, ◌∙◌, [], arith}
use Rattle.flat_table.specs.Grids.{Rows, rows_of}
use Rattle.flat_table.proofs.GridLaws.{length-rows_of, put_is}
use Rattle.flat_table.proofs.grid.Grid.put.Goals as goal

pub cell_of-cell-requires-clause-place : goal.cell_of-cell-requires-clause-place
cell_of-cell-requires-clause-place g c =
    omega (
      arith,
      ap (λ v. length v.rows) c.self.view_is,
      length-rows_of c.self.inside.width c.self.inside.count c.self.inside.cells.items,
      c.requires.place,
    )

pub returns : goal.returns
returns g c =
    let width = c.self.inside.width in
    let count = c.self.inside.count in
    let cells = c.self.inside.cells.items in
    let place = c.args.place in
    let column = c.args.column in
    let value = c.args.value in
    let within : c.args.place < c.self.inside.count =
    omega (
      arith,
      ap (λ v. length v.rows) c.self.view_is,
      length-rows_of c.self.inside.width c.self.inside.count c.self.inside.cells.items,
      c.requires.place,
    ) in
    let inside : c.args.column < c.self.inside.width =
    omega (arith, ap (λ v. v.width) c.self.view_is, c.requires.column) in
    let rows : rows_of c.self.inside.width c.self.inside.count
    (set c.self.inside.cells.items c.cell_of-cell.result c.args.value)
    ≡ set (rows_of c.self.inside.width c.self.inside.count c.self.inside.cells.items) c.args.place
    (set (get_or (rows_of c.self.inside.width c.self.inside.count c.self.inside.cells.items) c.args.place [])
    c.args.column c.args.value) =
    ap (λ k. rows_of width count (set cells k value)) c.cell_of-cell.ensures.value
    ∙ put_is width count place column value cells within inside in
    (λ i. record { width = width; rows = rows i })
    ∙ ap (λ (v : Rows g.row.T.Denot). record v
    { rows = set v.rows place (set (get_or v.rows place []) column value) }) c.self.view_is
