-- The cells so far.
use Rattle.std.proofs.Common.{◌≡◌, take, replicate}
use Rattle.flat_table.proofs.grid.fill.Given as goal

abbrev pub invariant-loop-cell : goal.invariant-loop-cell
invariant-loop-cell g l = take l.cell-index l.cells ≡ replicate l.cell-index l.value
