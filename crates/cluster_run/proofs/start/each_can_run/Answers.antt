use Rattle.std.proofs.Common.{◌<◌, length, arith}
use Rattle.cluster_run.proofs.PartLists.{RunsOn, one_more}
use Rattle.cluster_run.proofs.start.each_can_run.Goals as goal

pub loop-part-preserved : goal.loop-part-preserved
loop-part-preserved c =
    let within : c.loop-part.part-index < length c.args.parts.now = omega arith in
    one_more RunsOn c.args.parts.now c.loop-part.part-index c.part-item.result within c.part-item.is
    c.tells_can_run.ensures c.loop-part.invariant
