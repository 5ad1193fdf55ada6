-- The code of the program is that of its loop.
use Rattle.machine_steps.proofs.HalfLaws.{loop_is}
use Rattle.machine_steps.proofs.half.loop_of.Goals as goal

pub invariant_of-result : goal.invariant_of-result
invariant_of-result c =
    let g = c.args.ground.now in
    record {
      is = loop_is g.code g.part.split.value c.split-split.result.now c.in-Some.dense c.in-Some-dense.parts g.compiled
          c.split-split.ensures c.in-Some.is c.in-Some-dense.is;
    }
