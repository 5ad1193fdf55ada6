use Rattle.order_laws.proofs.Loops.{loop_agrees, loop_agrees_pairs}
use Rattle.order_laws.proofs.laws.order_free_loops.Goals as goal

pub returns-clause-flips : goal.returns-clause-flips
returns-clause-flips c = loop_agrees

pub returns-clause-pairs : goal.returns-clause-pairs
returns-clause-pairs c = loop_agrees_pairs
