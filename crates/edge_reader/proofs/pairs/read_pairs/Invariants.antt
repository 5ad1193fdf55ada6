use Rattle.std.proofs.Common.{◌≡◌, ◌≤◌, ◌+◌, ◌*◌, [], length, map, None}
use Rattle.vert_base.specs.Neighbours.{AreBelow}
use Rattle.edge_reader.specs.EdgePairs.{at_unit, entry_of_unit, units_of}
use Rattle.edge_reader.specs.EdgeText.{edges_from}
use Rattle.edge_reader.proofs.pairs.read_pairs.Given as goal

abbrev pub invariant-loop-unit : goal.invariant-loop-unit
invariant-loop-unit l = record {
  rest : edges_from None l.both (at_unit l.size) l.number l.list.items
      (map (entry_of_unit l.weighted) (units_of l.size l.rest))
      ≡ edges_from None l.both (at_unit l.size) 0 [] (map (entry_of_unit l.weighted) (units_of l.size l.bytes));
  below : AreBelow 2097152 l.list.items;
  few : length l.list.items ≤ 8388608;
  place : l.number * l.size + length l.rest ≡ length l.bytes;
}

abbrev pub decreases-loop-unit : goal.decreases-loop-unit
decreases-loop-unit l = length l.rest
