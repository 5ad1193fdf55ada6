-- The edges so far and those that are left are all.
use Rattle.std.proofs.Common.{◌≡◌, ◌++◌, map, length}
use Rattle.edge_reader.specs.EdgePairs.{units_of}
use Rattle.worker_stream.specs.PartFiles.{edge_in}
use Rattle.worker_stream.proofs.numbers.edges.Given as goal

abbrev pub invariant-loop-unit : goal.invariant-loop-unit
invariant-loop-unit l = l.list.items ++ map edge_in (units_of 12 l.rest) ≡ map edge_in (units_of 12 l.bytes)

abbrev pub decreases-loop-unit : goal.decreases-loop-unit
decreases-loop-unit l = length l.rest
