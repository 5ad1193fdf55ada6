-- What recording a run leaves of the outside, from a state of it on.
use Rattle.std.specs.Prelude.{ℕ, List, [], Option, Some}
use Rattle.command_steps.specs.Leaves.{Leaves}
use Rattle.command_steps.specs.Notes.{Fault}
use Rattle.command_steps.specs.Orders.{NoTask, follows}
use Rattle.command_steps.specs.States.{Held, Kept, Left, Outside, outside}
use Rattle.delivery_log.specs.Choosers.{IsDrawnRun}
use Rattle.delivery_log.specs.Records.{Recording, Records}
use Rattle.rand_pcg.specs.Lcg.{Lcg}
use Rattle.symple_face.specs.Cluster.{World}
use Rattle.symple_face.specs.Work.{Work}
use Rattle.machine_runs.specs.Tellings.{by_worlds, recorded}
use Rattle.symple_words.specs.declared.line.Lines.{Lines}
use Rattle.vert_base.specs.declared.message.Event.{Event}

-- a run that is recorded: by which machines and lines, and under which name, for so many machines
pub record Recordings : Type 0 where
  pub work : Work
  pub lines : Lines
  pub name : List ℕ
  pub machines : ℕ

-- with these events added, the drawn ones from a world on leave this
pub record RecordsOn (run : Recordings) (added : List Event) (w : World) (g : Lcg) (old new : Outside)
    (outcome : Option Fault) : Type 0 where
  pub events : List Event
  pub drawn : IsDrawnRun run.work w g events
  pub leaves : Leaves NoTask (follows (recorded (by_worlds run.work run.lines) run.name run.machines added w events))
      old new outcome

-- with more events added, at another world and sink, what is left is left from before them
abbrev pub RecordsTo :
    Recordings → List Event → World → Lcg → Held → List Event → World → Lcg → Held → Type 0
RecordsTo run added w g old more v h new =
    (shelf : Kept) (input : Left) (after : Outside) (outcome : Option Fault) →
    RecordsOn run more v h (outside shelf new input) after outcome →
    RecordsOn run added w g (outside shelf old input) after outcome

-- the recorder has the events that were played up to a world
pub record HasRecorded (work : Work) (lines : Lines) (machines : ℕ) (w : World) (g : Lcg) (old : Held) (v : World)
    (h : Lcg) (new : Held) (recording : Recording) : Type 0 where
  pub added : List Event
  pub records : Records recording machines added
  pub goes : (name : List ℕ) → RecordsTo (record { work = work; lines = lines; name = name; machines = machines }) []
      w g
      old added v h new

-- recording stops with a fault
abbrev pub StopsRecording : Work → Lines → ℕ → World → Lcg → Held → Held → Fault → Type 0
StopsRecording work lines machines w g old new fault =
    (name : List ℕ) (shelf : Kept) (input : Left) →
    RecordsOn (record { work = work; lines = lines; name = name; machines = machines }) [] w g (outside shelf old input)
    (outside shelf new input) (Some fault)
