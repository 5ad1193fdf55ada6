-- One more degree.
use Rattle.mirror_table.proofs.ChosenLaws.{chosen_more}
use Rattle.mirror_table.proofs.degrees.chosen.Goals as goal

pub loop-v-preserved : goal.loop-v-preserved
loop-v-preserved c = λ f are.
    chosen_more f c.args.degrees.now c.args.vertices.now c.loop-v.v-index _ _ c.loop-v.list.items
    c.push.new.self.items c.loop-v-test.true (c.requires c.loop-v.v-index _ c.loop-v-test.true) are
    (c.loop-v.invariant f are) c.in_ok-push.ensures.items
