-- The courses of runs that go on from an image.
use Rattle.std.specs.Prelude.{◌≡◌, nat_lt, ℕ, List, Option, None, Some, Result, Ok, Err, if◌then◌else◌, option_map}
use Rattle.check_point.specs.Judgement.{IsOwn, IsWholeOf}
use Rattle.check_point.specs.Laws.{told_start}
use Rattle.chunk_split.specs.Chunks.{vertices_of}
use Rattle.command_steps.specs.declared.failure.Failure.{Failure}
use Rattle.command_steps.specs.Faults.{fault_of}
use Rattle.command_steps.specs.FileWalks.{HasTried, HasTriedNone, NotTried}
use Rattle.command_steps.specs.Orders.{Course, Origin, Play}
use Rattle.command_steps.specs.States.{Kept}
use Rattle.instrument.specs.declared.split.Split.{Split}
use Rattle.symple_face.specs.Cluster.{IsPlainRun, World, first_world, restarted_world}
use Rattle.symple_face.specs.Parts.{PlainPart}
use Rattle.symple_face.specs.Restarts.{IsStart}
use Rattle.symple_face.specs.declared.start.Start.{Start}
use Rattle.symple_face.specs.Work.{PlainStart, Work, plain_start}
use Rattle.symple_run.specs.KeptImages.{key_for}
use Rattle.machine_runs.specs.PlainPlays.{course_from}
use Rattle.machine_runs.specs.RunParts.{IsRunOf}
use Rattle.vert_base.specs.declared.limits.TheConstants.{IMAGE_BYTES}
use Rattle.vert_base.specs.declared.message.Event.{Event}
use Rattle.word_kinds.specs.Fits.{IsFitting}

-- the bytes are an image of this run
pub record IsImage (split : Split) (vertices : ℕ) (key bytes : List ℕ) : Type 0 where
  pub whole : IsWholeOf split vertices bytes
  pub own : IsOwn split vertices key bytes

-- the start that a file tells: none where there is no file, or it is no image of this run
abbrev pub Tells : Split → ℕ → List ℕ → Option (List ℕ) → Option PlainStart → Type 0
Tells split vertices key None found = found ≡ None
Tells split vertices key (Some bytes) None = ¬ (IsImage split vertices key bytes)
Tells split vertices key (Some bytes) (Some start) =
    IsImage split vertices key bytes × (start ≡ told_start split vertices bytes)

-- of two starts that of the greater round, and the second where they are equal
abbrev pub later_of : Option PlainStart → Option PlainStart → Option PlainStart
later_of None second = second
later_of (Some first) None = Some first
later_of (Some first) (Some second) = if nat_lt second.round first.round then Some first else Some second

-- the first state of the machines from a start, or of a whole run where there is none
abbrev pub begun_world : Work → Split → List PlainPart → Option PlainStart → World
begun_world work split parts None = first_world work split parts
begun_world work split parts (Some start) = restarted_world work split parts start

-- The run is the plain one of machines of a kind from the later of the starts that two files tell.
pub record IsResumedPlay (work : Work) (play : Play) (origin : Origin) (even odd : Option (List ℕ)) (course : Course) :
    Type 0 where
  pub split : Split
  pub program_is : split.program.program ≡ play.program
  pub fits : IsFitting split.program.program
  pub parts : List PlainPart
  pub of_graph : IsRunOf play.machines play.draws play.graph parts
  pub first : Option PlainStart
  pub first_told : Tells split play.graph.vertices (key_for play origin) even first
  pub second : Option PlainStart
  pub second_told : Tells split play.graph.vertices (key_for play origin) odd second
  pub events : List Event
  pub plain : IsPlainRun work (begun_world work split parts (later_of first second)) events
  pub course_is : course
      ≡ course_from work play.lines (begun_world work split parts (later_of first second)) events

-- ---- what the code does
-- a run of so many vertices goes on with it
abbrev pub IsReady : Split → ℕ → Option Start → Type 0
IsReady split vertices None = Unit {0}
IsReady split vertices (Some start) = (whole : PlainPart) → vertices_of whole.ends ≡ vertices →
    IsStart whole split (plain_start start)

-- a file was tried
abbrev pub HasFile : Kept → Kept → List ℕ → Option (List ℕ) → Type 0
HasFile old new name None = HasTriedNone old new name IMAGE_BYTES
HasFile old new name (Some bytes) = HasTried old new name IMAGE_BYTES bytes

pub record Found (split : Split) (vertices : ℕ) (key name : List ℕ) (old new : Kept) (found : Option Start) : Type 0
  where
    pub file : Option (List ℕ)
    pub tried : HasFile old new name file
    pub tells : Tells split vertices key file (option_map plain_start found)
    pub ready : IsReady split vertices found

-- the start that stands under a name
abbrev pub FindsStart : Split → ℕ → List ℕ → List ℕ → Kept → Kept → Result (Option Start) Failure → Type 0
FindsStart split vertices key name old new (Ok found) = Found split vertices key name old new found
FindsStart split vertices key name old new (Err failure) = NotTried old new name (fault_of failure)
