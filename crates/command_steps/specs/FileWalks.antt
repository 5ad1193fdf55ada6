-- What loads that keep the bytes, tries and stores do to a shelf.
use Rattle.std.specs.Prelude.{◌≡◌, ◌≤◌, ℕ, List, length, Option, Some, None, Result, Ok, Err, Vec, option_map}
use Rattle.std.specs.Global.{Global}
use Rattle.edge_reader.specs.declared.edges.Edges.{Edges}
use Rattle.edge_reader.specs.Gives.{graph_of_edges}
use Rattle.outside.specs.Causes.{Rose}
use Rattle.outside.specs.Files.{with_file}
use Rattle.command_steps.specs.declared.failure.Failure.{Failure}
use Rattle.command_steps.specs.declared.read.Sources.{Sources}
use Rattle.command_steps.specs.Faults.{fault_of}
use Rattle.command_steps.specs.Leaves.{CannotLoad, HasNoFile, IsUnder, StoreFails}
use Rattle.command_steps.specs.Notes.{Fault, NoLoad, NoMemory, NoWrite}
use Rattle.command_steps.specs.States.{Kept}
use Rattle.command_steps.specs.Walks.{HasBoth, HasGraph, HasProgram, NoBoth, NoGraph, NoProgram}
use Rattle.symple_words.specs.declared.line.GraphForm.{GraphForm}
use Rattle.vert_tree.specs.declared.typed.Typed.{Typed}

-- ---- loads

-- the program, behind the text that says it
abbrev pub GivesProgramText : Kept → Kept → List ℕ → Result (Vec ℕ Global × Typed) Failure → Type 0
GivesProgramText old new name (Ok read) = (has : HasProgram old new name read.1) × (has.text ≡ read.0.items)
GivesProgramText old new name (Err failure) = NoProgram old new name (fault_of failure)

-- the graph, behind the bytes that say it
abbrev pub GivesGraphBytes : Kept → Kept → GraphForm → List ℕ → Result (Vec ℕ Global × Edges) Failure → Type 0
GivesGraphBytes old new form name (Ok read) =
    (has : HasGraph old new form name (graph_of_edges read.1)) × (has.bytes ≡ read.0.items)
GivesGraphBytes old new form name (Err failure) = NoGraph old new form name (fault_of failure)

-- both, with the bytes of both files
abbrev pub GivesSources : Kept → Kept → List ℕ → GraphForm → List ℕ → Result Sources Failure → Type 0
GivesSources old new name form of (Ok read) =
    (has : HasBoth old new name form of read.typed (graph_of_edges read.edges))
    × (has.has_program.text ≡ read.program.items) × (has.has_graph.bytes ≡ read.graph.items)
GivesSources old new name form of (Err failure) = NoBoth old new name form of (fault_of failure)

-- a file of that name has the bytes, and the shelf is as before
pub record HasBytes (old new : Kept) (name : List ℕ) (limit : ℕ) (bytes : List ℕ) : Type 0 where
  pub under : IsUnder old.files name (Some bytes)
  pub within : length bytes ≤ limit
  pub same : new ≡ old

-- why there are no bytes
pub data NoBytes (old new : Kept) (name : List ℕ) (limit : ℕ) (too_long fault : Fault) : Type 0 where
  NotThere : CannotLoad name limit too_long old new fault → NoBytes old new name limit too_long fault
  WantsForBytes : new ≡ old → fault ≡ NoMemory → NoBytes old new name limit too_long fault

abbrev pub GivesBytes : Kept → Kept → List ℕ → ℕ → Fault → Result (Vec ℕ Global) Failure → Type 0
GivesBytes old new name limit too_long (Ok bytes) = HasBytes old new name limit bytes.items
GivesBytes old new name limit too_long (Err why) = NoBytes old new name limit too_long (fault_of why)

-- ---- tries

-- a file of that name within the limit was loaded
pub record HasTried (old new : Kept) (name : List ℕ) (limit : ℕ) (bytes : List ℕ) : Type 0 where
  pub under : IsUnder old.files name (Some bytes)
  pub within : length bytes ≤ limit
  pub same : new ≡ old

-- there is none
pub record HasTriedNone (old new : Kept) (name : List ℕ) (limit : ℕ) : Type 0 where
  pub none : HasNoFile old.files name limit old.loads new.loads
  pub same : new ≡ record old { loads = new.loads }

-- why nothing is known of it
pub data NotTried (old new : Kept) (name : List ℕ) (fault : Fault) : Type 0 where
  FailsToTry : Rose old.loads new.loads → new ≡ record old { loads = new.loads } → fault ≡ NoLoad name
      → NotTried old new name fault
  WantsToTry : new ≡ old → fault ≡ NoMemory → NotTried old new name fault

abbrev pub GivesTried : Kept → Kept → List ℕ → ℕ → Result (Option (Vec ℕ Global)) Failure → Type 0
GivesTried old new name limit (Ok (Some bytes)) = HasTried old new name limit bytes.items
GivesTried old new name limit (Ok None) = HasTriedNone old new name limit
GivesTried old new name limit (Err failure) = NotTried old new name (fault_of failure)

-- ---- stores

-- why a file was not stored
pub data NotKept (name : List ℕ) (old new : Kept) (fault : Fault) : Type 0 where
  FailsToStore : StoreFails name old new → fault ≡ NoWrite → NotKept name old new fault
  WantsToStore : new ≡ old → fault ≡ NoMemory → NotKept name old new fault

abbrev pub StoresFile : List ℕ → List ℕ → Kept → Kept → Result (Unit {0}) Failure → Type 0
StoresFile name bytes old new (Ok done) =
    new ≡ record old { files = option_map (with_file name bytes) old.files }
StoresFile name bytes old new (Err failure) = NotKept name old new (fault_of failure)
