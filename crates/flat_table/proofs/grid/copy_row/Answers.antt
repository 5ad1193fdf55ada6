-- A row stands in the place of another one.
use Rattle.std.proofs.Common.{◌≡◌, ◌+◌, ◌-◌, ◌*◌, ap, ◌∙◌, arith}
use borrow.Rule.Slice.PartMut.{put_mid}
use Rattle.flat_table.specs.Grids.{rows_of}
use Rattle.flat_table.proofs.GridLaws.{put_row_is}
use Rattle.flat_table.proofs.grid.copy_row.Goals as goal

pub returns : goal.returns
returns g c =
    let width = c.args.width in
    let count = c.args.count in
    let place = c.args.place in
    let cells = c.args.cells.now in
    let start = c.args.width * c.args.place in
    let size : c.args.width * c.args.place + c.args.width - c.args.width * c.args.place ≡ c.args.width = omega arith in
    ap (λ k. rows_of width count (put_mid start k cells c.copy_from_slice.new.self)) size
    ∙ ap (λ row. rows_of width count (put_mid start width cells row)) c.copy_from_slice.ensures.after
    ∙ put_row_is width count place c.args.row.now cells c.requires.place c.requires.row c.requires.cells
