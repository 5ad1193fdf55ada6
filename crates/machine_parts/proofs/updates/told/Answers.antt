-- The words for slots come before those for reduced lets.
use Rattle.std.proofs.Common.{sym, ◌∙◌}
use Rattle.machine_parts.proofs.UpdateLaws.{told_let, told_slot}
use Rattle.machine_parts.proofs.updates.told.Goals as goal

pub returns-then-column-words : goal.returns-then-column-words
returns-then-column-words c =
    let w = c.args.words.now in
    c.value_at.ensures w.reduced ∙ sym (told_slot w.slots w.reduced c.args.update.now c.args.column
    c.if-column-words.true)

pub returns-else-column-words : goal.returns-else-column-words
returns-else-column-words c =
    let w = c.args.words.now in
    c.operand_at.ensures ∙ sym (told_let w.slots w.reduced c.args.update.now c.args.column c.if-column-words.false)
