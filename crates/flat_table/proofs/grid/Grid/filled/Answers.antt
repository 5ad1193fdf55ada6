-- Equal cells are equal rows.
use Rattle.std.proofs.Common.{◌≡◌, ◌*◌, ◌-◌, [], ◌++◌, take, replicate, vec_len, ap, ◌∙◌, arith}
use Rattle.std.proofs.Math.Seq.{take-nil}
use Rattle.flat_table.specs.Grids.{rows_of}
use Rattle.flat_table.proofs.GridLaws.{filled_is}
use Rattle.flat_table.proofs.grid.Grid.filled.Goals as goal

pub returns : goal.returns
returns g c =
    let width = c.args.width in
    let count = c.args.count in
    let value = c.args.value in
    let size = width * count in
    let cells = c.in_ok-cells.cells in
    let none : take size cells.items ≡ [] = ap (take size) c.in_ok-cells.ensures.items ∙ take-nil size in
    let all : size - vec_len cells ≡ size = omega (arith, c.in_ok-cells.ensures.len) in
    let filled = c.in_ok-resize.ensures.items
    ∙ ap (λ front. front ++ replicate (size - vec_len cells) value) none
    ∙ ap (λ k. replicate k value) all in
    let rows = ap (rows_of width count) filled ∙ filled_is width count value in
    λ i. record { width = width; rows = rows i }
