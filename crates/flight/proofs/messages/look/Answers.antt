use Rattle.flight.proofs.EntryLaws.{ascend_any}
use Rattle.flight.proofs.messages.look.Goals as goal

pub find_in-requires : goal.find_in-requires
find_in-requires c = ascend_any c.args.messages.now c.args.entries.now.items c.requires.order.ascends
