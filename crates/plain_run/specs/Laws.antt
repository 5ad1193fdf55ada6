-- A run over a table.
use Rattle.std.specs.Prelude.{◌≡◌, ℕ, List}
use Rattle.edge_reader.specs.EdgeList as edges
use Rattle.graph_table.specs.Tables.{IsTableOf}
use Rattle.vert_base.specs.declared.graph.Edge.{Edge}
use Rattle.vert_base.specs.Neighbours.{AreBelow}
use Rattle.vert_tree.specs.declared.program.Program.{Program}
use Rattle.vert_eval.specs.SourceRun.{source_run}
use Rattle.plain_run.specs.Jobs.{plain_job, table_job}

-- it is the run over the edges that the table was made of
abbrev pub RunsByTable : Type 0
RunsByTable =
    (program : Program) (n : ℕ) (ends : List ℕ) (list : List Edge) (draws : ℕ) (table : edges.Graph) →
    AreBelow n list → IsTableOf n list table →
    source_run (table_job program table ends draws) ≡ source_run (plain_job program n ends list draws)
