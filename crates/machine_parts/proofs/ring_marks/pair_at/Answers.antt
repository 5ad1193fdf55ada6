-- The two bits of a vertex in its byte.
use Rattle.dep_layout.proofs.LoopLaws.{pair_is}
use Rattle.machine_parts.proofs.ring_marks.pair_at.Goals as goal

pub returns : goal.returns
returns c = pair_is c.args.marks.now c.args.vertex c.requires
