-- What the receiver emits is written to its partials.
use Rattle.vertex_work.proofs.PushLaws.{edge_worked}
use Rattle.vertex_work.proofs.push.work_edge.Goals as goal

pub returns-clause-added : goal.returns-clause-added
returns-clause-added c =
    edge_worked c.args.receivers.now c.args.edge.now c.args.env.now c.receive.new.env c.load.new.emits.slots.items
    c.step_block_over.new.emits.slots.items c.args.partials.now c.store.new.partials c.len.result c.requires.received
    c.requires.can c.receive.ensures.at c.receive.ensures.width c.len.ensures.value c.load.ensures
    c.step_block_over.ensures.emits c.store.ensures
