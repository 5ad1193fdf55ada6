use Rattle.vert_tree.proofs.TypedLaws.{few_slots}
use Rattle.order_free.proofs.answer.free.Goals as goal

pub first_slot-requires : goal.first_slot-requires
first_slot-requires c = few_slots c.args.split.now.program.program c.args.split.now.program.typed
