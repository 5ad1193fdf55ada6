-- What a run works on and what stands between its rounds, in the words of the meaning.
use Rattle.std.specs.Prelude.{◌≡◌, ℕ, List, length, All}
use Rattle.edge_reader.specs.EdgeList as edges
use Rattle.vert_base.specs.declared.graph.Edge.{Edge}
use Rattle.vert_base.specs.declared.value.Row.{Row}
use Rattle.vert_tree.specs.declared.program.Program.{Program}
use Rattle.vert_eval.specs.SourceRun as meaning
use Rattle.plain_run.specs.declared.job.Job.{Job}
use Rattle.plain_run.specs.declared.job.Standing.{Standing}
use Rattle.plain_run.specs.Lists.{plain_graph}

abbrev pub job_of : Job → meaning.Job
job_of j = record { program = j.program.now.program; graph = j.graph.now; draws = j.draws }

abbrev pub standing_of : Standing → meaning.Standing
standing_of s = record {
  rows = s.rows.items;
  totals = s.totals.items;
  ruling = s.ruling;
  active = s.active;
  edges = s.edges;
}

-- a job, given what it works on
abbrev pub plain_job : Program → ℕ → List ℕ → List Edge → ℕ → meaning.Job
plain_job program vertices ends edges draws = record {
  program = program;
  graph = plain_graph vertices ends edges;
  draws = draws;
}

-- a job over the edges of a table
abbrev pub table_job : Program → edges.Graph → List ℕ → ℕ → meaning.Job
table_job program table ends draws = plain_job program table.vertices ends table.list draws

-- of each vertex a row with a word for each field
pub record HasRows (j : Job) (rows : List Row) : Type 0 where
  pub each : length rows ≡ j.graph.now.vertices
  pub wide : All (λ r. length r.words.items ≡ length j.program.now.program.fields.items) rows

-- what stands before a round, with all totals
pub record IsStanding (j : Job) (s : Standing) : Type 0 where
  pub rows : HasRows j s.rows.items
  pub totals : length s.totals.items ≡ length j.program.now.program.totals.items
