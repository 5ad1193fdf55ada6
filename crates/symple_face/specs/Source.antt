-- A run of the source, told by what stands before each of its rounds.
use Rattle.std.specs.Prelude.{ℕ, zero, suc, ◌+◌, ◌-◌, List}
use Rattle.vert_base.specs.declared.graph.Edge.{Edge}
use Rattle.vert_eval.specs.Rounds.{Scene}
use Rattle.vert_eval.specs.SourceRun.{Job, Standing, first_rows, next_standing, scene_before, standing_after}
use Rattle.chunk_split.specs.Chunks.{vertices_of}
use Rattle.instrument.specs.declared.split.Split.{Split}
use Rattle.symple_face.specs.Work.{PlainStart}

-- a run by one machine, from its first round on
pub record Source : Type 0 where
  pub job : Job
  pub split : Split
  -- the first round, and what stands before it
  pub base : ℕ
  pub from : Standing

-- what a program runs on
abbrev pub job_of : Split → List ℕ → ℕ → List Edge → Job
job_of split ends draws edges = record {
  program = split.program.program;
  graph = record { vertices = vertices_of ends; ends = ends; edges = edges };
  draws = draws;
}

-- the whole run
abbrev pub fresh_source : Job → Split → Source
fresh_source job split =
    record { job = job; split = split; base = 1; from = standing_after job 0 (first_rows job) }

-- the run that goes on from a start
abbrev pub resumed_source : Job → Split → PlainStart → Source
resumed_source job split start = record {
  job = job;
  split = split;
  base = start.round;
  from = record {
    rows = start.rows;
    totals = start.totals;
    ruling = start.ruling;
    active = start.active;
    edges = start.edges;
  };
}

-- what stands so many rounds after the first one
abbrev pub stand_after : Source → ℕ → Standing
stand_after src zero = src.from
stand_after src (suc count) = next_standing src.job (src.base + count) (stand_after src count)

-- what stands before a round; of rounds before the first one nothing is said
abbrev pub stand : Source → ℕ → Standing
stand src round = stand_after src (round - src.base)

abbrev pub scene : Source → ℕ → Scene
scene src round = scene_before src.job round (stand src round)
