-- What a command leaves of the outside, and how it ends: with no fault, or with one.
use Rattle.std.specs.Prelude.{IfSome, List, None, Option, Some, codes, drop, length, option_map, ℕ, ◌+◌, ◌<◌, ◌≡◌, ◌≤◌}
use Rattle.program_reader.specs.declared.refusal.Refusal.{Refusal}
use Rattle.program_reader.specs.Accepted.{Refuses as RefusesText, Says}
use Rattle.outside.specs.Bytes.{gained, GainedPart}
use Rattle.outside.specs.Causes.{Rose}
use Rattle.outside.specs.Files.{File, SameBut, file_named, with_file}
use Rattle.command_steps.specs.Notes.{BadProgram, Fault, NoLoad, NoMemory, NoWrite}
use Rattle.command_steps.specs.Orders.{Course, Ends, Judges, Loads, Order, Task, Puts, Refuses, Runs, Serves, Stores, Tries}
use Rattle.command_steps.specs.States.{Held, Kept, Left, Outside}
use Rattle.vert_tree.specs.declared.program.Program.{Program}

-- the shelf tells its files
abbrev pub IsTold : Option (List File) → Type 0
IsTold None = ⊥
IsTold (Some files) = Unit {0}

-- what stands under a name, where the files are told
abbrev pub IsUnder : Option (List File) → List ℕ → Option (List ℕ) → Type 0
IsUnder None name file = Unit {0}
IsUnder (Some files) name file = file_named name files ≡ file

-- memory was wanting, and nothing has changed
pub record Wants (w new : Outside) (outcome : Option Fault) : Type 0 where
  pub same : new ≡ w
  pub memory : outcome ≡ Some NoMemory

-- the command ends here with this fault, and nothing has changed
pub record EndsWith (fault : Fault) (w new : Outside) (outcome : Option Fault) : Type 0 where
  pub same : new ≡ w
  pub fault_is : outcome ≡ Some fault

-- ---- loads

-- why a file was not loaded
pub data CannotLoad (name : List ℕ) (limit : ℕ) (too_long : Fault) (old new : Kept) (fault : Fault) : Type 0 where
  IsAbsent : IsTold old.files → IsUnder old.files name None → new ≡ old → fault ≡ NoLoad name
      → CannotLoad name limit too_long old new fault
  IsLong : (bytes : List ℕ) → IsUnder old.files name (Some bytes) → limit < length bytes → new ≡ old
      → fault ≡ too_long → CannotLoad name limit too_long old new fault
  HasFailed : Rose old.loads new.loads → new ≡ record old { loads = new.loads } → fault ≡ NoLoad name
      → CannotLoad name limit too_long old new fault

-- the bytes of a file were loaded, and then the rest came; or they were not, and the command ended
pub data AfterLoad (name : List ℕ) (limit : ℕ) (too_long : Fault) (w new : Outside) (outcome : Option Fault)
    (rest : List ℕ → Type 0) : Type 0 where
  Loaded : (bytes : List ℕ) → IsUnder w.shelf.files name (Some bytes) → length bytes ≤ limit → rest bytes
      → AfterLoad name limit too_long w new outcome rest
  NotLoaded : (fault : Fault) → CannotLoad name limit too_long w.shelf new.shelf fault
      → new ≡ record w { shelf = new.shelf } → outcome ≡ Some fault
      → AfterLoad name limit too_long w new outcome rest
  WantsAtLoad : Wants w new outcome → AfterLoad name limit too_long w new outcome rest

-- no file, or one that is longer than the limit
abbrev pub IsMore : ℕ → Option (List ℕ) → Type 0
IsMore limit None = Unit {0}
IsMore limit (Some bytes) = limit < length bytes

-- no file within the limit stands under the name, as far as the files are told; else the count may rise
abbrev pub HasNoFile : Option (List File) → List ℕ → ℕ → ℕ → ℕ → Type 0
HasNoFile None name limit loads loads_after = loads ≤ loads_after
HasNoFile (Some files) name limit loads loads_after = (loads_after ≡ loads) × IsMore limit (file_named name files)

-- a file was loaded or there is none, and then the rest came; or the shelf failed
pub data AfterTry (name : List ℕ) (limit : ℕ) (w new : Outside) (outcome : Option Fault) (rest : Option (List ℕ) → ℕ →
    Type 0) : Type 0 where
  IsThere : (bytes : List ℕ) → IsUnder w.shelf.files name (Some bytes) → length bytes ≤ limit
      → rest (Some bytes) w.shelf.loads → AfterTry name limit w new outcome rest
  IsNone : (loads : ℕ) → HasNoFile w.shelf.files name limit w.shelf.loads loads → rest None loads
      → AfterTry name limit w new outcome rest
  TryFailed : Rose w.shelf.loads new.shelf.loads
      → new ≡ record w { shelf = record w.shelf { loads = new.shelf.loads } } → outcome ≡ Some (NoLoad name)
      → AfterTry name limit w new outcome rest
  WantsAtTry : Wants w new outcome → AfterTry name limit w new outcome rest

-- ---- what is judged and played

-- the text says a program, and then the rest came; or it is refused
pub data AfterJudging (text : List ℕ) (w new : Outside) (outcome : Option Fault) (rest : Program → Type 0) : Type 0
  where
    IsProgram : (program : Program) → Says text program → rest program → AfterJudging text w new outcome rest
    IsRefused : (refusal : Refusal) → RefusesText text refusal → EndsWith (BadProgram refusal) w new outcome
        → AfterJudging text w new outcome rest
    WantsAtJudging : Wants w new outcome → AfterJudging text w new outcome rest

-- the run went this way, and then the rest came
pub data AfterRun (is_course : Course → Type 0) (w new : Outside) (outcome : Option Fault) (rest : Course → Type 0) :
    Type 0 where
  Ran : (course : Course) → is_course course → rest course → AfterRun is_course w new outcome rest
  WantsAtRun : Wants w new outcome → AfterRun is_course w new outcome rest

-- ---- what goes out

-- a sink after a text that it took
abbrev pub after_text : Held → List ℕ → ℕ → Held
after_text out text spare = record { bytes = gained out.bytes text; faults = out.faults; spare = spare }

-- The sink took a first part of the text and failed, or all of it and failed behind it. It doesn't where
-- it is sure to take a byte more than the text.
pub record PutFails (text : List ℕ) (old new : Held) : Type 0 where
  pub part : GainedPart old.bytes new.bytes text
  pub rose : Rose old.faults new.faults
  pub sure : old.spare ≤ length text

-- the text was put, and then the rest came; or a put failed
pub data AfterPut (text : List ℕ) (w new : Outside) (outcome : Option Fault) (rest : Held → Type 0) : Type 0 where
  Gained : (spare : ℕ) → w.out.spare ≤ spare + length text → rest (after_text w.out text spare)
      → AfterPut text w new outcome rest
  NotPut : PutFails text w.out new.out → new ≡ record w { out = new.out } → outcome ≡ Some NoWrite
      → AfterPut text w new outcome rest
  WantsAtPut : Wants w new outcome → AfterPut text w new outcome rest

-- a store failed: what stands under its name is open
pub record StoreFails (name : List ℕ) (old new : Kept) : Type 0 where
  pub others : SameBut name old.files new.files
  pub rose : Rose old.stores new.stores
  pub loads : new.loads ≡ old.loads

-- the bytes stand under the name, and then the rest came; or the store failed
pub data AfterStore (name bytes : List ℕ) (w new : Outside) (outcome : Option Fault) (rest : Kept → Type 0) : Type 0
  where
    Stored : rest (record w.shelf { files = option_map (with_file name bytes) w.shelf.files })
        → AfterStore name bytes w new outcome rest
    NotStored : StoreFails name w.shelf new.shelf → new ≡ record w { shelf = new.shelf } → outcome ≡ Some NoWrite
        → AfterStore name bytes w new outcome rest
    WantsAtStore : Wants w new outcome → AfterStore name bytes w new outcome rest

-- ---- the input

-- why serving the input ended early: a take failed, a put failed, or memory was wanting
pub data CannotServe (text : List ℕ) (w new : Outside) (outcome : Option Fault) : Type 0 where
  TakeFailed : Rose w.input.faults new.input.faults → new.out.faults ≡ w.out.faults
      → outcome ≡ Some (NoLoad (codes "input")) → CannotServe text w new outcome
  PutFailed : Rose w.out.faults new.out.faults → w.out.spare ≤ length text
      → new.input.faults ≡ w.input.faults → outcome ≡ Some NoWrite → CannotServe text w new outcome
  WantsToServe : new.out.faults ≡ w.out.faults → new.input.faults ≡ w.input.faults
      → outcome ≡ Some NoMemory → CannotServe text w new outcome

-- serving ended early: a front of what would be used was lost, and a first part of the text put
pub record ServedPart (used : ℕ) (text : List ℕ) (w new : Outside) : Type 0 where
  pub size : ℕ
  pub within : size ≤ used
  pub lost : new.input.bytes ≡ option_map (drop size) w.input.bytes
  pub part : GainedPart w.out.bytes new.out.bytes text
  pub shelf : new.shelf ≡ w.shelf

-- the input was served, and then the rest came; or serving ended early
pub data AfterServing (used : List ℕ → ℕ) (text : List ℕ → List ℕ) (w new : Outside) (outcome : Option Fault)
    (rest : List ℕ → Held → Left → Type 0) : Type 0 where
  Served : (bytes : List ℕ) → IfSome w.input.bytes (λ left. left ≡ bytes) → (spare : ℕ)
      → w.out.spare ≤ spare + length (text bytes)
      → rest bytes (after_text w.out (text bytes) spare)
      (record w.input { bytes = option_map (drop (used bytes)) w.input.bytes })
      → AfterServing used text w new outcome rest
  NotServed : (bytes : List ℕ) → IfSome w.input.bytes (λ left. left ≡ bytes) →
      ServedPart (used bytes) (text bytes) w new
      → CannotServe (text bytes) w new outcome → AfterServing used text w new outcome rest

-- ---- the whole

-- a refusal, or memory was wanting before it
pub data AtRefusal (fault : Fault) (w new : Outside) (outcome : Option Fault) : Type 0 where
  Refused : EndsWith fault w new outcome → AtRefusal fault w new outcome
  WantsAtRefusal : Wants w new outcome → AtRefusal fault w new outcome

-- all was done
pub record Done (w new : Outside) (outcome : Option Fault) : Type 0 where
  pub same : new ≡ w
  pub fine : outcome ≡ None

-- What an order leaves of the outside `w`, where the courses of a run are those that `courses` allows.
abbrev pub Leaves : (Task → Course → Type 0) → Order → Outside → Outside → Option Fault → Type 0
Leaves courses Ends w new outcome = Done w new outcome
Leaves courses (Refuses fault) w new outcome = AtRefusal fault w new outcome
Leaves courses (Loads name limit too_long next) w new outcome =
    AfterLoad name limit too_long w new outcome (λ bytes. Leaves courses (next bytes) w new outcome)
Leaves courses (Tries name limit next) w new outcome =
    AfterTry name limit w new outcome (λ file loads.
    Leaves courses (next file) (record w { shelf = record w.shelf { loads = loads } }) new outcome)
Leaves courses (Judges text next) w new outcome =
    AfterJudging text w new outcome (λ program. Leaves courses (next program) w new outcome)
Leaves courses (Runs task next) w new outcome =
    AfterRun (courses task) w new outcome (λ course. Leaves courses (next course) w new outcome)
Leaves courses (Puts text next) w new outcome =
    AfterPut text w new outcome (λ out. Leaves courses next (record w { out = out }) new outcome)
Leaves courses (Stores name bytes next) w new outcome =
    AfterStore name bytes w new outcome (λ shelf. Leaves courses next (record w { shelf = shelf }) new outcome)
Leaves courses (Serves used text next) w new outcome =
    AfterServing used text w new outcome (λ bytes out input.
    Leaves courses (next bytes) (record w { out = out; input = input }) new outcome)
