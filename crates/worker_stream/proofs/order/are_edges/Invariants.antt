-- What is left of the edges decides.
use Rattle.std.proofs.Common.{◌≡◌, drop}
use Rattle.graph_table.specs.Sides.{key_of}
use Rattle.worker_stream.specs.Orders.{are_edges_behind}
use Rattle.worker_stream.proofs.order.are_edges.Given as goal

abbrev pub invariant-loop-edge : goal.invariant-loop-edge
invariant-loop-edge l =
    are_edges_behind l.cuts l.machine (key_of l.major) (key_of l.minor) l.before (drop l.edge-index l.edges)
    ≡ are_edges_behind l.cuts l.machine (key_of l.major) (key_of l.minor) (0, 0) l.edges
