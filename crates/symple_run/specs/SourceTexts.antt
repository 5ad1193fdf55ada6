-- The run that the source tells of a program on a graph, and its text.
use Rattle.std.specs.Prelude.{◌≡◌, ℕ, List, length}
use Rattle.chunk_split.specs.Bounds.{ends_of}
use Rattle.circulant_plan.specs.Skeleton.{Skeleton, first_skeleton, resumed_skeleton}
use Rattle.command_steps.specs.Orders.{Play}
use Rattle.edge_reader.specs.EdgeList as edges
use Rattle.instrument.specs.declared.split.Split.{Split}
use Rattle.machine_runs.specs.RunParts.{IsRunOf}
use Rattle.schedule_laws.specs.Laws.{later_run, whole_run}
use Rattle.schedule_laws.specs.Texts.{text_of_run}
use Rattle.symple_face.specs.Parts.{PlainPart}
use Rattle.symple_face.specs.Source.{Source}
use Rattle.symple_face.specs.Work.{PlainStart}
use Rattle.vert_eval.specs.SourceRun.{Job, source_run}
use Rattle.vert_tree.specs.declared.program.Program.{Program}

-- the run of a program on a graph that is cut into chunks, one for each machine
abbrev pub job_of : ℕ → ℕ → Program → edges.Graph → Job
job_of machines draws program graph = record {
  program = program;
  graph = record { vertices = graph.vertices; ends = ends_of machines graph.vertices graph.list; edges = graph.list };
  draws = draws;
}

-- what the source run of a program puts
abbrev pub play_text : Play → List ℕ
play_text play = text_of_run play.lines play.program
    (source_run (job_of play.machines play.draws play.program play.graph))

-- the program as it is split, and the parts of the graph on which it is run
pub record HasParts (play : Play) : Type 0 where
  pub split : Split
  pub program_is : split.program.program ≡ play.program
  pub parts : List PlainPart
  pub of_graph : IsRunOf play.machines play.draws play.graph parts

-- the source's run on them, and how the order of its events begins
abbrev pub source_on : (play : Play) → HasParts play → Source
source_on play on = whole_run on.split on.parts on.of_graph.one

abbrev pub first_order : (play : Play) → HasParts play → Skeleton
first_order play on = first_skeleton (length on.parts)

-- the same of a run that goes on from a start
abbrev pub source_from : (play : Play) → HasParts play → PlainStart → Source
source_from play on start = later_run on.split on.parts on.of_graph.one start

abbrev pub later_order : (play : Play) → HasParts play → PlainStart → Skeleton
later_order play on start = resumed_skeleton (length on.parts) start.round start.ruling
