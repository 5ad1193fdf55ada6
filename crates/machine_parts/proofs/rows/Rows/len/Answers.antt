-- There are as many rows as flags.
use Rattle.std.proofs.Common.{sym, ◌∙◌}
use Rattle.machine_parts.proofs.FlatLaws.{rows_count}
use Rattle.machine_parts.proofs.rows.Rows.len.Goals as goal

pub returns : goal.returns
returns c =
    let r = c.self.inside in
    c.len.ensures ∙ c.self.inside.active.ok.0 ∙ sym (rows_count c.args.self.now r.width r.words r.active.items
    c.self.view_is c.self.invariant)
