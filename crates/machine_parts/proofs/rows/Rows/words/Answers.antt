-- The words of a row stand in their place.
use Rattle.std.proofs.Common.{length, sym, ap, ◌∙◌, arith}
use Rattle.machine_parts.proofs.FlatLaws.{at_row, row_wide, rows_count}
use Rattle.machine_parts.proofs.rows.Rows.words.Goals as goal

pub row-requires : goal.row-requires
row-requires c =
    let r = c.self.inside in
    omega (
      arith,
      rows_count c.args.self.now r.width r.words r.active.items c.self.view_is c.self.invariant,
      c.self.invariant.size,
      c.requires,
    )

pub returns-clause-words : goal.returns-clause-words
returns-clause-words c =
    let r = c.self.inside in
    c.row.ensures ∙ sym (ap (λ row. row.words.items) (at_row c.args.self.now r.width r.words r.active.items
    c.self.view_is c.self.invariant c.args.place c.requires))

pub returns-clause-width : goal.returns-clause-width
returns-clause-width c =
    let r = c.self.inside in
    ap length c.row.ensures ∙ row_wide c.args.self.now r.width r.words r.active.items c.self.view_is c.self.invariant
    c.args.place c.requires
