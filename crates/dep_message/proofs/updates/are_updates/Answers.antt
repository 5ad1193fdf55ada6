use Rattle.dep_message.proofs.UpdateLaws.{update_step}
use Rattle.dep_message.proofs.updates.are_updates.Goals as goal

pub vertices-preserved : goal.vertices-preserved
vertices-preserved c =
    update_step c.args.slots c.args.reduced c.args.vertices c.vertices.counter c.vertices.rest.now
    c.in-Some.others.now _ c.vertices-test.true c.in-Some.ensures c.vertices.invariant
