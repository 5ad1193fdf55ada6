-- What a run that leaves images leaves of the files, and what goes on from them.
use Rattle.std.specs.Prelude.{◌≡◌, ◌≢◌, ◌⊎◌, ℕ, List, [], ◌∷◌, ◌++◌, Option, None, Some, Ok, bytes_eq, if◌then◌else◌, map}
use Rattle.command_steps.specs.declared.status.Status.{Status}
use Rattle.command_steps.specs.declared.status.Status.TheVariants as status
use Rattle.command_steps.specs.Commands.{graph_of, origin_of, play_of}
use Rattle.command_steps.specs.Leaves.{IsUnder}
use Rattle.command_steps.specs.Notes.{Fault, NoMemory, NoWrite}
use Rattle.command_steps.specs.Orders.{Course, Fails, Imaged, IsOver, Keeps, Prints, Takes, Task}
use Rattle.command_steps.specs.States.{Outside}
use Rattle.edge_reader.specs.EdgeList.{Graph}
use Rattle.outside.specs.Bytes.{gained}
use Rattle.outside.specs.Files.{File, file_named}
use Rattle.program_reader.specs.Accepted.{Says}
use Rattle.symple_run.specs.Headline.{status_after}
use Rattle.symple_words.specs.Lines as words
use Rattle.vert_tree.specs.declared.program.Program.{Program}

-- ---- files that were stored in turn
-- what stands under a name then
abbrev pub last_under : List ℕ → List File → Option (List ℕ) → Option (List ℕ)
last_under name [] before = before
last_under name (file ∷ files) before =
    last_under name files (if bytes_eq file.name name then Some file.bytes else before)

-- under each name stands what was stored last, or what stood there before
abbrev pub AreStored : List File → Option (List File) → Option (List File) → Type 0
AreStored stored None new = Unit {0}
AreStored stored (Some old) None = ⊥
AreStored stored (Some old) (Some new) =
    (name : List ℕ) → file_named name new ≡ last_under name stored (file_named name old)

-- the same of each name but one
abbrev pub AreStoredBut : List ℕ → List File → Option (List File) → Option (List File) → Type 0
AreStoredBut but stored None new = Unit {0}
AreStoredBut but stored (Some old) None = ⊥
AreStoredBut but stored (Some old) (Some new) =
    (name : List ℕ) → name ≢ but → file_named name new ≡ last_under name stored (file_named name old)

-- a store of a course, and all that is put before its turn
pub record Store : Type 0 where
  pub front : List ℕ
  pub file : File

abbrev pub stores_in : List ℕ → Course → List Store
stores_in front IsOver = []
stores_in front (Fails fault) = []
stores_in front (Prints text rest) = stores_in (front ++ text) rest
stores_in front (Keeps name bytes rest) =
    record { front = front; file = record { name = name; bytes = bytes } } ∷ stores_in front rest
stores_in front (Takes used text rest) = []

abbrev pub files_in : List Store → List File
files_in stores = map (λ s. s.file) stores

-- A store failed: what stands under its name is open, the stores before it were done, and exactly what comes before
-- its turn was put.
pub record StopsAt (course : Course) (w new : Outside) : Type 0 where
  pub before : List Store
  pub failed : Store
  pub behind : List Store
  pub stores_are : stores_in [] course ≡ before ++ failed ∷ behind
  pub others : AreStoredBut failed.file.name (files_in before) w.shelf.files new.shelf.files
  pub put : new.out.bytes ≡ gained w.out.bytes failed.front

-- Some stores were done, and then a put failed or memory was wanting.
pub record StopsBehind (course : Course) (w new : Outside) : Type 0 where
  pub before : List Store
  pub behind : List Store
  pub stores_are : stores_in [] course ≡ before ++ behind
  pub stored : AreStored (files_in before) w.shelf.files new.shelf.files

-- how far a run came that leaves images: to its end, to a store that failed, or to another fault
pub data CameTo (course : Course) (w new : Outside) (outcome : Option Fault) : Type 0 where
  ToItsEnd : outcome ≡ None → AreStored (files_in (stores_in [] course)) w.shelf.files new.shelf.files
      → CameTo course w new outcome
  ToAStore : outcome ≡ Some NoWrite → StopsAt course w new → CameTo course w new outcome
  ToAFault : (outcome ≡ Some NoWrite) ⊎ (outcome ≡ Some NoMemory) → StopsBehind course w new
      → CameTo course w new outcome

-- ---- the command
-- a course of the run that the words ask for, whose program and graph were loaded, and how far it came
pub record LeftImages (courses : Task → Course → Type 0) (job : words.PlainJob) (machines : ℕ) (image : List ℕ)
    (w new : Outside) (outcome : Option Fault) : Type 0 where
  pub text : List ℕ
  pub program : Program
  pub bytes : List ℕ
  pub graph : Graph
  pub says : Says text program
  pub program_under : IsUnder w.shelf.files job.program (Some text)
  pub reads : graph_of job.form bytes ≡ Ok graph
  pub graph_under : IsUnder w.shelf.files job.graph (Some bytes)
  pub course : Course
  pub is_course : courses (Imaged (play_of job machines program graph) (origin_of job text bytes) image) course
  pub came : CameTo course w new outcome

-- Where `run --image` is done or a write failed, it was played, and came so far.
abbrev pub TellsImages : (Task → Course → Type 0) → List (List ℕ) → Outside → Outside → Status → Type 0
TellsImages courses texts w new result =
    (job : words.PlainJob) → (machines : ℕ) → (image : List ℕ)
    → words.line_of texts ≡ Ok (words.RunOf job machines (Some image))
    → (result ≡ status.Done) ⊎ (result ≡ status.WriteFault)
    → (outcome : Option Fault) × (result ≡ status_after outcome)
    × LeftImages courses job machines image w new outcome
