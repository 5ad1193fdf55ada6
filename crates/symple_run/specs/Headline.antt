-- What `symple` answers, from the words to the status.
use Rattle.std.specs.Prelude.{◌≡◌, ◌⊎◌, ℕ, IsTrue, List, Option, Some, None, Ok}
use Rattle.edge_reader.specs.EdgeList as edges
use Rattle.order_free.specs.Free.{freedom_of, is_free}
use Rattle.order_laws.specs.OrderFree.{told}
use Rattle.program_reader.specs.Accepted.{Says}
use Rattle.outside.specs.Bytes.{gained}
use Rattle.outside.specs.Causes.{Rose}
use Rattle.outside.specs.Files.{File}
use Rattle.command_steps.specs.declared.status.Status.{Status}
use Rattle.command_steps.specs.declared.status.Status.TheVariants as status
use Rattle.command_steps.specs.Commands.{order_of}
use Rattle.command_steps.specs.Comes.{Comes, Fits}
use Rattle.command_steps.specs.Leaves.{IsUnder, Leaves, PutFails}
use Rattle.command_steps.specs.Notes.{Fault, note_text, status_of}
use Rattle.command_steps.specs.Orders.{Course, Order, Task}
use Rattle.command_steps.specs.Outputs.{free_text}
use Rattle.command_steps.specs.States.{Held, Outside}
use Rattle.symple_run.specs.SourceTexts.{job_of}
use Rattle.symple_words.specs.Lines as words
use Rattle.vert_eval.specs.SourceRun.{source_run}
use Rattle.vert_tree.specs.declared.program.Program.{Program}

abbrev pub status_after : Option Fault → Status
status_after None = status.Done
status_after (Some fault) = status_of fault

-- no note where there is no fault, and else its line, or a first part of it where a put failed
abbrev pub Noted : Option Fault → Held → Held → Type 0
Noted None notes notes_after = notes_after.bytes ≡ notes.bytes
Noted (Some fault) notes notes_after =
    (notes_after.bytes ≡ gained notes.bytes (note_text fault))
    ⊎ PutFails (note_text fault) notes notes_after

-- The order of the words left of the outside `w` what stands in `after`, each task in it going as
-- `courses` allows, and the status and the note are those of how it ended.
pub record Answers (courses : Task → Course → Type 0) (texts : List (List ℕ)) (w after : Outside)
    (notes notes_after : Held) (result : Status) : Type 0 where
  pub outcome : Option Fault
  pub leaves : Leaves courses (order_of texts) w after outcome
  pub status_is : result ≡ status_after outcome
  pub noted : Noted outcome notes notes_after

-- no count rose, or that of `out` need not, since it is sure to take all that the order puts
pub record NothingFails (courses : Task → Course → Type 0) (order : Order) (files : List File) (w after : Outside) :
    Type 0 where
  pub no_load : ¬ (Rose w.shelf.loads after.shelf.loads)
  pub no_store : ¬ (Rose w.shelf.stores after.shelf.stores)
  pub no_take : ¬ (Rose w.input.faults after.input.faults)
  pub no_put :
      ¬ (Rose w.out.faults after.out.faults) ⊎ Fits courses order files w.input.bytes w.out.spare

-- Where nothing fails, the status is that to which the order comes over the files, or memory was wanting.
abbrev pub IsComplete :
    (Task → Course → Type 0) → List (List ℕ) → Outside → Outside → Status → Type 0
IsComplete courses texts w after result =
    (files : List File) (outcome : Option Fault) → w.shelf.files ≡ Some files
    → Comes courses (order_of texts) files w.input.bytes outcome
    → NothingFails courses (order_of texts) files w after
    → (result ≡ status_after outcome) ⊎ (result ≡ status.Memory)

-- ---- what `free` says

-- the runs of a program over every graph with every draws number are the same at every two machine
-- counts, but for their reads
abbrev pub AlikeAtAllCounts : Program → Type 0
AlikeAtAllCounts p =
    (graph : edges.Graph) (draws first second : ℕ)
    → told (source_run (job_of first draws p graph)) ≡ told (source_run (job_of second draws p graph))

-- the line of the program that the text under the name says, whose runs are alike where the line calls
-- it free
pub record FreeAnswer (files : Option (List File)) (name : List ℕ) (out after : Held) : Type 0 where
  pub text : List ℕ
  pub program : Program
  pub under : IsUnder files name (Some text)
  pub says : Says text program
  pub printed : after.bytes ≡ gained out.bytes (free_text program)
  pub alike : IsTrue (is_free (freedom_of program)) → AlikeAtAllCounts program

abbrev pub TellsFreedom : List (List ℕ) → Option (List File) → Held → Held → Status → Type 0
TellsFreedom texts files out after result =
    (name : List ℕ) → words.line_of texts ≡ Ok (words.FreeOf name) → result ≡ status.Done
    → FreeAnswer files name out after
