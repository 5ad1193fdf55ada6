use Rattle.vert_tree.proofs.TypedLaws.{few_lets}
use Rattle.instrument.proofs.split.split_of.Goals as goal

pub split_loop-requires : goal.split_loop-requires
split_loop-requires c = few_lets c.args.typed.program c.args.typed.typed c.in-Some.dense c.in-Some.is
