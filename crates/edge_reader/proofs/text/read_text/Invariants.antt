use Rattle.std.proofs.Common.{◌≡◌, ◌≤◌, ◌+◌, [], length, map}
use Rattle.edge_reader.specs.declared.fault.EdgeFault.TheVariants.{Line}
use Rattle.vert_base.specs.Neighbours.{AreBelow}
use Rattle.edge_reader.specs.Lines.{lines_of, entry_of_line}
use Rattle.edge_reader.specs.EdgeText.{limit_of, edges_from}
use Rattle.edge_reader.proofs.text.read_text.Given as goal

abbrev pub invariant-loop-entry : goal.invariant-loop-entry
invariant-loop-entry l = record {
  rest : edges_from l.vertices l.both Line l.number l.list.items (map entry_of_line (lines_of l.rest))
      ≡ edges_from l.vertices l.both Line 1 [] (map entry_of_line (lines_of l.bytes));
  below : AreBelow (limit_of l.vertices) l.list.items;
  few : length l.list.items ≤ 8388608;
  lines : l.number + length l.rest ≤ length l.bytes + 1;
}

abbrev pub decreases-loop-entry : goal.decreases-loop-entry
decreases-loop-entry l = length l.rest
