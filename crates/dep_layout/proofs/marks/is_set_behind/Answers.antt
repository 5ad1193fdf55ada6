use Rattle.std.proofs.Common.{arith}
use Rattle.dep_layout.specs.Judgement.{pairs_in, is_set}
use Rattle.dep_layout.proofs.LoopLaws.{any_end}
use Rattle.dep_layout.proofs.MarkLaws.{length-pairs}
use Rattle.dep_layout.proofs.marks.is_set_behind.Goals as goal

pub returns : goal.returns
returns c = any_end is_set (pairs_in c.args.marks.now) c.loop-vertex.vertex _
    (omega (arith, length-pairs c.args.marks.now)) c.loop-vertex.invariant
