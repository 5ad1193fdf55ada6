-- What playing a run does to the outside.
use Rattle.std.specs.Prelude.{◌≡◌, ℕ, Result, Ok, Err}
use Rattle.check_point.specs.Keys.{key_of}
use Rattle.edge_reader.specs.Gives.{graph_of_edges}
use Rattle.command_steps.specs.Faults.{fault_of}
use Rattle.command_steps.specs.declared.failure.Failure.{Failure}
use Rattle.command_steps.specs.Leaves.{Leaves}
use Rattle.command_steps.specs.Orders.{Runs, Task, follows}
use Rattle.command_steps.specs.States.{Held, Kept, Left, outside}
use Rattle.command_steps.specs.Walks.{HasBoth, NoBoth, fault_after}
use Rattle.symple_face.specs.Work.{Work}
use Rattle.symple_run.specs.declared.images.Keyed.{Keyed}
use Rattle.symple_run.specs.KeptImages.{flags_of}
use Rattle.symple_run.specs.Played.{IsPlayed}
use Rattle.symple_words.specs.Lines as words

-- a task was done by machines of a kind, as far as memory and the sink last, whatever the shelf and the input
abbrev pub DoesTask : Work → Task → Held → Held → Result (Unit {0}) Failure → Type 0
DoesTask work task old new result =
    (shelf : Kept) (input : Left) → Leaves (IsPlayed work) (Runs task follows) (outside shelf old input)
    (outside shelf new input) (fault_after result)

-- the same of a task that stores, over the shelf that it leaves
abbrev pub DoesStoring : Work → Task → Kept → Kept → Held → Held → Result (Unit {0}) Failure → Type 0
DoesStoring work task shelf shelf_after old new result =
    (input : Left) → Leaves (IsPlayed work) (Runs task follows) (outside shelf old input)
    (outside shelf_after new input) (fault_after result)

-- a program and a graph were loaded and read, and the key was made of their bytes
abbrev pub GivesKeyed : ℕ → words.PlainJob → Kept → Kept → Result Keyed Failure → Type 0
GivesKeyed machines job old new (Ok keyed) =
    (has : HasBoth old new job.program job.form job.graph keyed.typed (graph_of_edges keyed.edges))
    × (keyed.key ≡ key_of has.has_program.text has.has_graph.bytes job.form.vertices (flags_of job.form) machines
    job.draws)
GivesKeyed machines job old new (Err failure) = NoBoth old new job.program job.form job.graph (fault_of failure)
