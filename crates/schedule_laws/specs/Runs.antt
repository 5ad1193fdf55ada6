-- A run of the source whose machines can run.
use Rattle.std.specs.Prelude.{◌≡◌, ◌<◌, ◌≤◌, ℕ, List, length}
use Rattle.std.specs.List.{All}
use Rattle.vert_eval.specs.SourceRun.{standing_after}
use Rattle.word_kinds.specs.Fits.{IsSized, StandsInWords}
use Rattle.chunk_split.specs.Chunks.{AreEnds, vertices_of}
use Rattle.instrument.specs.declared.split.Split.{Split}
use Rattle.symple_face.specs.Cluster.{IsOneRun}
use Rattle.symple_face.specs.CoreSight.{program_of}
use Rattle.symple_face.specs.Ideal.{machines_of}
use Rattle.symple_face.specs.Lawful.{CanRun}
use Rattle.symple_face.specs.Parts.{PlainPart}
use Rattle.symple_face.specs.PartsOf.{part_of}
use Rattle.symple_face.specs.Restarts.{IsStart}
use Rattle.symple_face.specs.Source.{Source, fresh_source, job_of, resumed_source}
use Rattle.symple_face.specs.Work.{PlainStart}

-- a run of the source whose parts can run: its sizes, its words, and what stands before its first round
pub record IsSourceRun (src : Source) : Type 0 where
  pub program : program_of src.split ≡ src.job.program
  pub ends : AreEnds 64 src.job.graph.ends
  pub sized : src.job.graph.vertices ≡ vertices_of src.job.graph.ends
  pub graph : IsSized src.job.graph
  pub can_run : (m : ℕ) → m < machines_of src →
      CanRun (part_of src.job.graph.ends src.job.draws src.job.graph.edges m) src.split
  pub base : 1 ≤ src.base
  pub stands : StandsInWords src.job src.from
  pub totals : length src.from.totals ≡ length src.job.program.totals.items
  -- a run from the first round on begins with what follows of its first rows
  pub first : src.base ≡ 1 → src.from ≡ standing_after src.job 0 src.from.rows

-- the whole run of the graph whose parts these are
abbrev pub FreshIsARun : Type 0
FreshIsARun =
    (split : Split) (parts : List PlainPart) (one : IsOneRun parts) → All (λ part. CanRun part split) parts →
    IsSourceRun (fresh_source (job_of split one.ends one.draws one.edges) split)

-- and that which goes on from a start
abbrev pub ResumedIsARun : Type 0
ResumedIsARun =
    (split : Split) (parts : List PlainPart) (one : IsOneRun parts) (whole : PlainPart) (start : PlainStart) →
    All (λ part. CanRun part split) parts → whole.ends ≡ one.ends → IsStart whole split start →
    IsSourceRun (resumed_source (job_of split one.ends one.draws one.edges) split start)
