-- The bytes so far are those of the edges that were read.
use Rattle.std.proofs.Common.{◌≡◌, ◌++◌, take}
use Rattle.std.specs.List.{flat_map}
use Rattle.worker_stream.specs.PartFiles.{edge_bytes}
use Rattle.worker_stream.proofs.spelling.push_edges.Given as goal

abbrev pub invariant-loop-edge : goal.invariant-loop-edge
invariant-loop-edge l = l.out.items ≡ l.fn.out.items ++ flat_map edge_bytes (take l.edge-index l.edges)
