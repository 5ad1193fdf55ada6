-- Equal words and flags are equal rows.
use Rattle.machine_parts.proofs.FlatLaws.{still_rows}
use Rattle.machine_parts.proofs.rows.Rows.still.Goals as goal

pub returns : goal.returns
returns c = still_rows c.args.width c.args.count c.in_ok-words.words c.in_ok-active.active.items c.in_ok-words.ensures
    c.in_ok-active.ensures
