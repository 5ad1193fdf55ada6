-- What the two commands of parts do to the outside.
use Rattle.std.specs.Prelude.{◌≡◌, ℕ, List, Result, Ok, Err}
use Rattle.command_steps.specs.declared.failure.Failure.{Failure}
use Rattle.command_steps.specs.declared.failure.Failure.TheVariants as failure
use Rattle.command_steps.specs.Faults.{fault_of}
use Rattle.command_steps.specs.FileWalks.{HasBytes, NoBytes}
use Rattle.command_steps.specs.Notes.{BadPart, Fault}
use Rattle.command_steps.specs.Orders.{Course, Task}
use Rattle.command_steps.specs.Orders as order
use Rattle.command_steps.specs.States.{Kept}
use Rattle.part_runs.specs.Parting.{IsParted}
use Rattle.part_runs.specs.Serving.{IsPartFile, IsServing, part_fault}
use Rattle.symple_face.specs.declared.part.Part.{Part}
use Rattle.symple_face.specs.PartViews.{plain_of}
use Rattle.symple_face.specs.State.{State}
use Rattle.symple_face.specs.Work.{Work}
use Rattle.vert_base.specs.declared.limits.TheConstants.{GRAPH_BYTES}
use Rattle.worker_stream.specs.Answers.{ReadsPart}
use Rattle.worker_stream.specs.declared.fault.PartFault.{PartFault}
use Rattle.worker_stream.specs.declared.fault.ServeFault.{ServeFault}
use Rattle.worker_stream.specs.declared.fault.ServeFault.TheVariants as serve
use Rattle.worker_stream.specs.Serving.{Serves, Streams}
use Rattle.worker_stream.specs.Worker.{Served}

-- a graph is parted so and an input served so, and nothing else is done
abbrev pub IsPartRun : Work → Task → Course → Type 0
IsPartRun work (order.Plain play) course = ⊥
IsPartRun work (order.Imaged play origin image) course = ⊥
IsPartRun work (order.Resumed play origin even odd) course = ⊥
IsPartRun work (order.Drawn play seed schedule) course = ⊥
IsPartRun work (order.DrawnLossy play seed schedule) course = ⊥
IsPartRun work (order.Followed play schedule) course = ⊥
IsPartRun work (order.Shown seed machines) course = ⊥
IsPartRun work (order.Renewed schedule target) course = ⊥
IsPartRun work (order.Parted play program prefix) course = IsParted play program prefix course
IsPartRun work (order.Served part rows) course = IsServing work part rows course

-- ---- a part file

-- a file is refused by a fault, its first one, or memory was wanting
pub record NoPart (bytes : List ℕ) (fault : Fault) : Type 0 where
  pub why : PartFault
  pub reads : ReadsPart bytes (Err why)
  pub fault_is : fault ≡ part_fault why

abbrev pub JudgesPart : List ℕ → Result Part Failure → Type 0
JudgesPart bytes (Ok part) = IsPartFile bytes (plain_of part) part.split.value
JudgesPart bytes (Err failure) = NoPart bytes (fault_of failure)

-- a file of that name is the file of a part, and the shelf is as before
pub record HasPart (old new : Kept) (name : List ℕ) (part : Part) : Type 0 where
  pub bytes : List ℕ
  pub has : HasBytes old new name GRAPH_BYTES bytes
  pub is : IsPartFile bytes (plain_of part) part.split.value

-- why there is no part
pub data LacksPart (old new : Kept) (name : List ℕ) (fault : Fault) : Type 0 where
  NotLoaded : NoBytes old new name GRAPH_BYTES (BadPart 2) fault → LacksPart old new name fault
  NotRead : (bytes : List ℕ) → HasBytes old new name GRAPH_BYTES bytes → NoPart bytes fault
      → LacksPart old new name fault

abbrev pub GivesPart : Kept → Kept → List ℕ → Result Part Failure → Type 0
GivesPart old new name (Ok part) = HasPart old new name part
GivesPart old new name (Err failure) = LacksPart old new name (fault_of failure)

-- ---- an input

abbrev pub failure_for : ServeFault → Failure
failure_for (serve.Message code at) = failure.Message code at
failure_for (serve.Ended name) = failure.EndsEarly name
failure_for serve.Source = failure.Input
failure_for serve.Sink = failure.Write
failure_for serve.Want = failure.Memory

-- a machine ended early by this fault
pub record EndsBy {S : Type 0} (state : S → State) (w : Served) (old new : Streams) (why : Failure) : Type 0 where
  pub fault : ServeFault
  pub serves : Serves state w old new (Err fault)
  pub why_is : why ≡ failure_for fault

-- what serving an input answers
abbrev pub ServesInput : {S : Type 0} → (S → State) → Served → Streams → Streams → Result S Failure → Type 0
ServesInput state w old new (Ok site) = Serves state w old new (Ok site)
ServesInput state w old new (Err why) = EndsBy state w old new why
