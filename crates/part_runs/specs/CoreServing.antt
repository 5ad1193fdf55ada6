-- The course of `worker` over the part file of a machine, and an input that begins with what the machine took in a
-- complete run, in whatever order the events of the run come.
use Rattle.std.specs.Prelude.{◌≡◌, ◌<◌, ◌^◌, ◌++◌, ℕ, true, List, Some, length, slice_get}
use Rattle.command_steps.specs.Orders.{Course, IsOver, Keeps, Takes}
use Rattle.instrument.specs.declared.split.Split.{Split}
use Rattle.part_runs.specs.Serving.{IsServing}
use Rattle.program_reader.specs.Accepted.{Says}
use Rattle.program_reader.specs.Laws.{IsAccepted}
use Rattle.symple_face.specs.Cluster.{IsOneRun, World, first_world, is_complete}
use Rattle.symple_face.specs.Parts.{PlainPart}
use Rattle.symple_face.specs.Work.{Work}
use Rattle.vert_base.specs.declared.message.Event.{Event}
use Rattle.worker_laws.specs.Chunks.{chunk_text, last_rows}
use Rattle.worker_stream.specs.PartFiles.{spelled_part}
use Rattle.worker_stream.specs.Prompt.{sent_by, taken_by}
use Rattle.worker_stream.specs.Sent.{spelled_letters}

-- of this input these bytes are used and this text is put, and then these lines are kept under this name
pub record ServesSo (used text lines name input : List ℕ) (course : Course) : Type 0 where
  pub uses : List ℕ → ℕ
  pub puts : List ℕ → List ℕ
  pub next : List ℕ → Course
  pub course_is : course ≡ Takes uses puts next
  pub uses_them : uses input ≡ length used
  pub puts_it : puts input ≡ text
  pub keeps_them : next input ≡ Keeps name lines IsOver

-- of the messages that machine m took in a complete run, with whatever behind them, exactly these are used, those
-- that it sent are put, and its part of the run's table is kept
abbrev pub EachRunIsServed : Work → Split → (parts : List PlainPart) → IsOneRun parts → ℕ → List ℕ → Course → Type 0
EachRunIsServed work split parts one m name course =
    (es : List Event) (rest : List ℕ) →
    let w : World = first_world work split parts in
    is_complete work w es ≡ true →
    ServesSo (spelled_letters (taken_by work m w es)) (spelled_letters (sent_by work m w es))
    (chunk_text split.program.program one.ends (last_rows split parts one) m) name
    (spelled_letters (taken_by work m w es) ++ rest) course

-- so for the program that the file says
pub record ServesItsPart (work : Work) (parts : List PlainPart) (one : IsOneRun parts) (m : ℕ) (text name : List ℕ)
    (course : Course) : Type 0 where
  pub split : Split
  pub says : Says text split.program.program
  pub serves : EachRunIsServed work split parts one m name course

-- the part file of machine m is that of its part of the graph, with an accepted text
abbrev pub CompleteRunsAreServed : Work → Type 0
CompleteRunsAreServed work =
    (parts : List PlainPart) (one : IsOneRun parts) (m : ℕ) (part : PlainPart) (text name : List ℕ)
    (course : Course) → one.draws < 2 ^ 64 → IsAccepted text → slice_get parts m ≡ Some part →
    IsServing work (spelled_part part text) name course → ServesItsPart work parts one m text name course
