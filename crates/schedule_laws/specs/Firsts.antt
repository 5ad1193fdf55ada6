-- The first states of machines are what the source's run says.
use Rattle.std.specs.Prelude.{◌<◌, ℕ, length}
use Rattle.vert_eval.specs.SourceRun.{Job}
use Rattle.instrument.specs.declared.split.Split.{Split}
use Rattle.symple_face.specs.CoreFirst.{core_first, core_restarted}
use Rattle.symple_face.specs.PartsOf.{part_of}
use Rattle.symple_face.specs.Source.{fresh_source, resumed_source}
use Rattle.symple_face.specs.Work.{PlainStart}
use Rattle.schedule_laws.specs.Events.{IsTrue}
use Rattle.schedule_laws.specs.Runs.{IsSourceRun}

-- that of a whole run
abbrev pub FirstIsTrue : Type 0
FirstIsTrue =
    (job : Job) (split : Split) (m : ℕ) → IsSourceRun (fresh_source job split) → m < length job.graph.ends →
    IsTrue (fresh_source job split) m (core_first (part_of job.graph.ends job.draws job.graph.edges m) split)

-- and that of a run that goes on from a start
abbrev pub RestartedIsTrue : Type 0
RestartedIsTrue =
    (job : Job) (split : Split) (start : PlainStart) (m : ℕ) → IsSourceRun (resumed_source job split start) →
    m < length job.graph.ends →
    IsTrue (resumed_source job split start) m
    (core_restarted (part_of job.graph.ends job.draws job.graph.edges m) split start)
