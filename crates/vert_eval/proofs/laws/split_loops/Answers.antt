use Rattle.vert_eval.proofs.RunLaws.{loop-append, loop-parts}
use Rattle.vert_eval.proofs.laws.split_loops.Goals as goal

pub returns-clause-two : goal.returns-clause-two
returns-clause-two c = loop-append

pub returns-clause-parts : goal.returns-clause-parts
returns-clause-parts c = loop-parts
