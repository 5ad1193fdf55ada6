-- The weights of the edges of a table.
use Rattle.std.specs.Prelude.{ℕ, List}
use Rattle.vert_base.specs.declared.graph.Edge.{Edge}
use Rattle.vert_base.specs.Neighbours.{AreBelow}
use Rattle.edge_reader.specs.EdgeList.{Graph}
use Rattle.graph_table.specs.Tables.{IsTableOf}
use Rattle.word_kinds.specs.Fits.{HaveWeights}

-- the weight of each edge fits its 32 bits, whichever edges it is the table of
abbrev pub HasWeights : Graph → Type 0
HasWeights table = (n : ℕ) (edges : List Edge) → IsTableOf n edges table → AreBelow n edges → HaveWeights edges
