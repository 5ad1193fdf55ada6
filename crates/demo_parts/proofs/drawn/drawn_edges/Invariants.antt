use Rattle.std.proofs.Common.{◌≡◌, ◌-◌, ◌*◌, ◌≤◌, ◌++◌, length}
use Rattle.demo_parts.specs.DrawnGraphs.{drawn_graph, edges_of}
use Rattle.demo_parts.specs.WordStreams.{words_of}
use Rattle.vert_base.specs.Neighbours.{AreBelow}
use Rattle.demo_parts.proofs.drawn.drawn_edges.Given as goal

abbrev pub invariant-edges : goal.invariant-edges
invariant-edges l = record {
  whole : l.list.items ++ edges_of (words_of (2 * (200000 - l.counter)) l.generator) ≡ (drawn_graph l.seed).list;
  few : length l.list.items ≤ l.counter;
  below : AreBelow 20000 l.list.items;
}
