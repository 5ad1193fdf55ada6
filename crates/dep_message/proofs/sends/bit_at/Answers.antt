use Rattle.dep_message.proofs.BitLaws.{bit_is}
use Rattle.dep_message.proofs.sends.bit_at.Goals as goal

pub returns : goal.returns
returns c = bit_is c.args.marks.now c.args.vertex c.requires
