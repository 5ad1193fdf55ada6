-- The flag of a row stands in its place.
use Rattle.std.proofs.Common.{◌<◌, false, length, sym, ap, ◌∙◌, arith}
use Rattle.std.proofs.lemmas.List.{get_or_read}
use Rattle.machine_parts.proofs.FlatLaws.{at_row, rows_count}
use Rattle.machine_parts.proofs.rows.Rows.is_active.Goals as goal

pub index-requires : goal.index-requires
index-requires c =
    let r = c.self.inside in
    omega (
      arith,
      rows_count c.args.self.now r.width r.words r.active.items c.self.view_is c.self.invariant,
      c.self.inside.active.ok.0,
      c.requires,
    )

pub returns : goal.returns
returns c =
    let r = c.self.inside in
    let within : c.args.place < length c.self.inside.active.items =
    omega (arith, rows_count c.args.self.now r.width r.words r.active.items c.self.view_is c.self.invariant, c.requires)
    in
    get_or_read r.active.items c.args.place _ within c.index.ensures false
    ∙ sym (ap (λ row. row.active) (at_row c.args.self.now r.width r.words r.active.items c.self.view_is c.self.invariant
    c.args.place c.requires))
