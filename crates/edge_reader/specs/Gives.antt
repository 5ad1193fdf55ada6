-- How the result of a reader is compared with the reading of a file.
use Rattle.std.specs.Prelude.{◌≡◌, Result, Ok, Err}
use Rattle.edge_reader.specs.declared.edges.Edges.{Edges}
use Rattle.edge_reader.specs.declared.fault.EdgeFault.{EdgeFault}
use Rattle.edge_reader.specs.declared.fault.EdgeFault.TheVariants.{Line, Byte, Want}
use Rattle.edge_reader.specs.EdgeList.{Graph}

-- the number of vertices, and the edges by file place
abbrev pub graph_of_edges : Edges → Graph
graph_of_edges edges = record { vertices = edges.vertices; list = edges.list.items }

-- the result is the reading; want of memory may come at any reading
abbrev pub Gives : Result Graph EdgeFault → Result Edges EdgeFault → Type 0
Gives reading (Ok edges) = reading ≡ Ok (graph_of_edges edges)
Gives reading (Err (Line code line)) = reading ≡ Err (Line code line)
Gives reading (Err (Byte code at)) = reading ≡ Err (Byte code at)
Gives reading (Err Want) = Unit {0}
