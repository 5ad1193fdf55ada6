-- The ends so far and those that are left are all.
use Rattle.std.proofs.Common.{◌≡◌, ◌++◌, map, length}
use Rattle.edge_reader.specs.EdgePairs.{units_of}
use Rattle.byteorder.specs.Endian.{little_number}
use Rattle.worker_stream.proofs.numbers.ends.Given as goal

abbrev pub invariant-loop-unit : goal.invariant-loop-unit
invariant-loop-unit l =
    l.list.items ++ map (little_number 4) (units_of 4 l.rest) ≡ map (little_number 4) (units_of 4 l.bytes)

abbrev pub decreases-loop-unit : goal.decreases-loop-unit
decreases-loop-unit l = length l.rest
