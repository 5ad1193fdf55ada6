-- The degrees so far and those that are left are all.
use Rattle.std.proofs.Common.{◌≡◌, ◌++◌, map, length}
use Rattle.edge_reader.specs.EdgePairs.{units_of}
use Rattle.worker_stream.specs.PartFiles.{degree_of_unit}
use Rattle.worker_stream.proofs.numbers.degrees.Given as goal

abbrev pub invariant-loop-unit : goal.invariant-loop-unit
invariant-loop-unit l =
    l.list.items ++ map degree_of_unit (units_of 12 l.rest) ≡ map degree_of_unit (units_of 12 l.bytes)

abbrev pub decreases-loop-unit : goal.decreases-loop-unit
decreases-loop-unit l = length l.rest
