-- The words and the flag are put into the place of the row.
use Rattle.std.proofs.Common.{ℤ, List, set, ap, ◌∙◌, arith}
use Rattle.machine_parts.proofs.FlatLaws.{row_put, rows_count}
use Rattle.machine_parts.proofs.rows.Rows.write.Goals as goal

pub put_row-requires-clause-place : goal.put_row-requires-clause-place
put_row-requires-clause-place c =
    let r = c.self.inside in
    omega (
      arith,
      rows_count c.args.self.now r.width r.words r.active.items c.self.view_is c.self.invariant,
      c.self.invariant.size,
      c.requires.place,
    )

pub index_mut-requires : goal.index_mut-requires
index_mut-requires c =
    let r = c.self.inside in
    omega (
      arith,
      rows_count c.args.self.now r.width r.words r.active.items c.self.view_is c.self.invariant,
      c.self.inside.active.ok.0,
      c.requires.place,
    )

pub returns : goal.returns
returns c =
    let r = c.self.inside in
    row_put c.args.self.now r.width r.words r.active.items c.self.view_is c.self.invariant c.args.place c.args.row.now
    c.put_row.new.self
    (c.put_row.ensures ∙ ap (λ (ws : List ℤ). record r.words { rows = set r.words.rows c.args.place ws })
    c.as_slice.ensures.value)
