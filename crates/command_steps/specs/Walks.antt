-- What the parts of a command do to the outside, as parts of an order.
use Rattle.std.specs.Prelude.{◌≡◌, ◌≤◌, ◌+◌, ℕ, List, length, Option, Some, None, Result, Ok, Err}
use Rattle.edge_reader.specs.declared.edges.Edges.{Edges}
use Rattle.edge_reader.specs.declared.fault.EdgeFault.{EdgeFault}
use Rattle.edge_reader.specs.EdgeList.{Graph}
use Rattle.edge_reader.specs.Gives.{graph_of_edges}
use Rattle.program_reader.specs.declared.refusal.Refusal.{Refusal}
use Rattle.program_reader.specs.Accepted.{Refuses as RefusesText, Says}
use Rattle.outside.specs.declared.sink.SinkFault.{SinkFault}
use Rattle.outside.specs.Causes.{Rose}
use Rattle.outside.specs.Files.{File}
use Rattle.command_steps.specs.declared.failure.Failure.{Failure}
use Rattle.command_steps.specs.declared.failure.Failure.TheVariants as failure
use Rattle.command_steps.specs.Commands.{edge_fault, graph_of, too_long_graph, too_long_program}
use Rattle.command_steps.specs.Faults.{fault_of}
use Rattle.command_steps.specs.Leaves.{CannotLoad, IsUnder, Leaves, PutFails, after_text}
use Rattle.command_steps.specs.Notes.{BadProgram, Fault, NoMemory}
use Rattle.command_steps.specs.Orders.{Course, Order, Task}
use Rattle.command_steps.specs.States.{Held, Kept, Left, outside, shelf_state, sink_state}
use Rattle.symple_words.specs.declared.line.GraphForm.{GraphForm}
use Rattle.vert_base.specs.declared.limits.TheConstants.{GRAPH_BYTES, PROGRAM_BYTES}
use Rattle.vert_tree.specs.declared.typed.Typed.{Typed}

abbrev pub fault_after : Result (Unit {0}) Failure → Option Fault
fault_after (Ok done) = None
fault_after (Err failure) = Some (fault_of failure)

-- ---- loads

-- a text of that name says the program, and the shelf is as before
pub record HasProgram (old new : Kept) (name : List ℕ) (typed : Typed) : Type 0 where
  pub text : List ℕ
  pub under : IsUnder old.files name (Some text)
  pub within : length text ≤ PROGRAM_BYTES
  pub says : Says text typed.program
  pub same : new ≡ old

-- why there is no program
pub data NoProgram (old new : Kept) (name : List ℕ) (fault : Fault) : Type 0 where
  NoText : CannotLoad name PROGRAM_BYTES too_long_program old new fault → NoProgram old new name fault
  BadText : (text : List ℕ) → IsUnder old.files name (Some text) → length text ≤ PROGRAM_BYTES
      → (refusal : Refusal) → RefusesText text refusal → new ≡ old → fault ≡ BadProgram refusal
      → NoProgram old new name fault
  WantsForText : new ≡ old → fault ≡ NoMemory → NoProgram old new name fault

abbrev pub GivesProgram : Kept → Kept → List ℕ → Result Typed Failure → Type 0
GivesProgram old new name (Ok typed) = HasProgram old new name typed
GivesProgram old new name (Err failure) = NoProgram old new name (fault_of failure)

-- a file of that name says the graph, and the shelf is as before
pub record HasGraph (old new : Kept) (form : GraphForm) (name : List ℕ) (graph : Graph) : Type 0 where
  pub bytes : List ℕ
  pub under : IsUnder old.files name (Some bytes)
  pub within : length bytes ≤ GRAPH_BYTES
  pub reads : graph_of form bytes ≡ Ok graph
  pub same : new ≡ old

-- why there is no graph
pub data NoGraph (old new : Kept) (form : GraphForm) (name : List ℕ) (fault : Fault) : Type 0 where
  NoFile : CannotLoad name GRAPH_BYTES too_long_graph old new fault → NoGraph old new form name fault
  BadFile : (bytes : List ℕ) → IsUnder old.files name (Some bytes) → length bytes ≤ GRAPH_BYTES
      → (why : EdgeFault) → graph_of form bytes ≡ Err why → new ≡ old → fault ≡ edge_fault why
      → NoGraph old new form name fault
  WantsForFile : new ≡ old → fault ≡ NoMemory → NoGraph old new form name fault

abbrev pub GivesGraph : Kept → Kept → GraphForm → List ℕ → Result Edges Failure → Type 0
GivesGraph old new form name (Ok edges) = HasGraph old new form name (graph_of_edges edges)
GivesGraph old new form name (Err failure) = NoGraph old new form name (fault_of failure)

-- a program and a graph were loaded and read, and the shelf is as before
pub record HasBoth (old new : Kept) (name : List ℕ) (form : GraphForm) (of : List ℕ) (typed : Typed) (graph : Graph) :
    Type 0 where
  pub has_program : HasProgram old old name typed
  pub has_graph : HasGraph old new form of graph

-- why there are not both
pub data NoBoth (old new : Kept) (name : List ℕ) (form : GraphForm) (of : List ℕ) (fault : Fault) : Type 0 where
  LacksProgram : NoProgram old new name fault → NoBoth old new name form of fault
  LacksGraph : (typed : Typed) → HasProgram old old name typed → NoGraph old new form of fault
      → NoBoth old new name form of fault

abbrev pub GivesBoth : Kept → Kept → List ℕ → GraphForm → List ℕ → Result (Typed × Edges) Failure → Type 0
GivesBoth old new name form of (Ok read) = HasBoth old new name form of read.0 (graph_of_edges read.1)
GivesBoth old new name form of (Err failure) = NoBoth old new name form of (fault_of failure)

-- ---- texts

-- the text was put
pub record IsPut (text : List ℕ) (old new : Held) : Type 0 where
  pub same : new ≡ after_text old text new.spare
  pub spared : old.spare ≤ new.spare + length text

-- the text was put and handed on, or a first part of it
abbrev pub HandsOn : List ℕ → Held → Held → Result (Unit {0}) SinkFault → Type 0
HandsOn text old new (Ok done) = IsPut text old new
HandsOn text old new (Err fault) = PutFails text old new

-- nothing more was put, and a sink failed only where it was sure of nothing
abbrev pub Flushes : Held → Held → Result (Unit {0}) SinkFault → Type 0
Flushes old new (Ok done) = (new ≡ record old { spare = new.spare }) × (old.spare ≤ new.spare)
Flushes old new (Err fault) = (new.bytes ≡ old.bytes) × Rose old.faults new.faults × (old.spare ≡ 0)

-- this text is put, as far as memory and the sink last
abbrev pub Plays : List ℕ → Held → Held → Result (Unit {0}) Failure → Type 0
Plays text old new (Ok done) = IsPut text old new
Plays text old new (Err failure.Write) = PutFails text old new
Plays text old new (Err failure.Memory) = new ≡ old
Plays text old new (Err _) = ⊥

-- ---- a command

-- what an order leaves of a shelf and a sink, whatever the input, its runs going as is allowed
abbrev pub Performs : {H O : Type 0} → (H → Option (List File)) → (H → ℕ) → (H → ℕ) → (O → Option (List ℕ)) →
    (O → ℕ) → (O → ℕ) → (Task → Course → Type 0) → Order → H → H → O → O → Result (Unit {0}) Failure → Type 0
Performs files loads stores held faults spare courses order shelf shelf_after out out_after result =
    (input : Left) → Leaves courses order
    (outside (shelf_state files loads stores shelf) (sink_state held faults spare out) input)
    (outside (shelf_state files loads stores shelf_after) (sink_state held faults spare out_after) input)
    (fault_after result)
