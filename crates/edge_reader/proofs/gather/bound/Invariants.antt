use Rattle.std.proofs.Common.{◌≡◌, ◌≤◌, drop, max}
use Rattle.edge_reader.specs.EdgeList.{bound_of}
use Rattle.edge_reader.proofs.gather.bound.Given as goal

abbrev pub invariant-loop-edge : goal.invariant-loop-edge
invariant-loop-edge l = record {
  rest : max l.bound (bound_of (drop l.edge-index l.edges)) ≡ bound_of l.edges;
  within : l.bound ≤ 2097152;
}
