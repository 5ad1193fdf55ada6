use Rattle.std.proofs.Common.{arith}
use Rattle.edge_reader.proofs.GatherLaws.{bound_covers}
use Rattle.edge_reader.proofs.gather.vertex_count.Goals as goal

pub returns-in-None-clause-below : goal.returns-in-None-clause-below
returns-in-None-clause-below c = bound_covers c.bound.result c.args.edges.now (omega (arith, c.bound.ensures.value))
