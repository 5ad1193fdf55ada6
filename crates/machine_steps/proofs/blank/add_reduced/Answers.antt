-- One let more.
use Rattle.std.proofs.Common.{refl, arith}
use Rattle.machine_steps.proofs.BlankLaws.{reduced_more}
use Rattle.machine_steps.proofs.blank.add_reduced.Goals as goal

pub loop-class-preserved : goal.loop-class-preserved
loop-class-preserved c =
    let l = c.loop-class in
    record {
      items = reduced_more c.args.classes.now l.class-index _ _ c.args.row.now.items l.row.items
          c.add_let.new.row.items c.loop-class-test.true refl l.invariant.items c.add_let.ensures.items;
      few = omega (arith, l.invariant.few, c.add_let.ensures.few);
    }
