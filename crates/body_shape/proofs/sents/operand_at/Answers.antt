use Rattle.body_shape.proofs.ReadLaws.{short_operands}
use Rattle.body_shape.proofs.sents.operand_at.Goals as goal

pub returns-in_default : goal.returns-in_default
returns-in_default c = short_operands c.args.slots c.args.reduced c.args.place c.args.update.now
    c.in_default.len_below c.requires.place
