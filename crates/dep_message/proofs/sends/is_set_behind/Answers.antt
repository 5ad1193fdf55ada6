use Rattle.std.proofs.Common.{arith}
use Rattle.dep_layout.specs.Judgement.{is_set}
use Rattle.dep_layout.proofs.LoopLaws.{any_end}
use Rattle.body_shape.specs.Fit.{bits_in}
use Rattle.dep_message.proofs.BitLaws.{length-bits}
use Rattle.dep_message.proofs.sends.is_set_behind.Goals as goal

pub returns : goal.returns
returns c = any_end is_set (bits_in c.args.marks.now) c.loop-vertex.vertex _
    (omega (arith, length-bits c.args.marks.now)) c.loop-vertex.invariant
