-- Equal cells are equal rows.
use Rattle.std.proofs.Common.{◌≡◌, ◌*◌, length, replicate, sym, ap, ◌∙◌}
use Rattle.std.specs.Vec.{with_items}
use Rattle.std.proofs.lemmas.List.{length-replicate, with_items_is}
use Rattle.flat_table.specs.Grids.{Rows, rows_of}
use Rattle.flat_table.proofs.GridLaws.{filled_is, length-rows_of}
use Rattle.flat_table.proofs.grid.Grid.clear.Goals as goal

pub returns : goal.returns
returns g c =
    let width = c.self.inside.width in
    let count = c.self.inside.count in
    let cells = c.self.inside.cells.items in
    let value = c.args.value in
    let size : length c.as_mut_slice.result.now ≡ c.self.inside.width * c.self.inside.count =
    ap length c.as_mut_slice.ensures.value ∙ c.self.invariant.0 in
    let same = ap length c.fill.ensures ∙ length-replicate (length c.as_mut_slice.result.now) value
    ∙ ap length c.as_mut_slice.ensures.value ∙ sym c.self.inside.cells.ok.0 in
    let all = with_items_is c.self.inside.cells c.fill.new.cells same in
    let rows : rows_of c.self.inside.width c.self.inside.count (with_items c.self.inside.cells c.fill.new.cells).items
    ≡ replicate c.self.inside.count (replicate c.self.inside.width c.args.value) =
    ap (rows_of width count) (all ∙ c.fill.ensures ∙ ap (λ k. replicate k value) size) ∙ filled_is width count value in
    (λ i. record { width = width; rows = rows i })
    ∙ (ap (λ k. record { width = width; rows = replicate k (replicate width value) })
    (sym (length-rows_of width count cells))
    ∙ ap (λ (v : Rows g.row.T.Denot). record v { rows = replicate (length v.rows) (replicate v.width value) })
    c.self.view_is)
