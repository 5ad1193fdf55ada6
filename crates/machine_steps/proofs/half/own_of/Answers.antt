-- The own vertices of the part.
use Rattle.symple_face.specs.PartViews.{plain_of}
use Rattle.machine_steps.proofs.HalfLaws.{own_degrees, own_is}
use Rattle.machine_steps.proofs.half.own_of.Goals as goal

pub invariant_of-result : goal.invariant_of-result
invariant_of-result c =
    let g = c.args.ground.now in
    let known = own_degrees (plain_of g.part) c.machine.result c.degrees.result.now c.machine.ensures.number
    c.degrees.ensures in
    record {
      own = own_is (plain_of g.part) c.start.result c.degrees.result.now c.args.rows.now c.deref.result.now g.part.whole
          c.start.ensures.start c.deref.ensures.value known c.requires.count c.requires.wide;
    }
