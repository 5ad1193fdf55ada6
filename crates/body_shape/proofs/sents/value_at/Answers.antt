use Rattle.body_shape.proofs.ReadLaws.{short_values}
use Rattle.body_shape.proofs.sents.value_at.Goals as goal

pub returns-in_default : goal.returns-in_default
returns-in_default c = λ reduced. short_values c.args.slots reduced c.args.slot c.args.update.now
    c.in_default.len_below c.requires.slot
