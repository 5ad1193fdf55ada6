use Rattle.std.proofs.Common.{◌≡◌, ◌++◌, take, map}
use Rattle.vert_base.specs.Neighbours.{source}
use Rattle.plain_run.specs.Lists.{ids_of}
use Rattle.plain_run.proofs.round.push_sources.Given as goal

abbrev pub invariant-loop-edge : goal.invariant-loop-edge
invariant-loop-edge l = ids_of l.ids.items ≡ ids_of l.initial.ids.items ++ map source (take l.edge-index l.edges)
