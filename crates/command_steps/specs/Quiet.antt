-- What an order never does to the outside.
use Rattle.std.specs.Prelude.{◌≡◌, ◌≢◌, ℕ, List, [], ◌∷◌, Option, Some, None}
use Rattle.outside.specs.Files.{File, file_named}
use Rattle.program_reader.specs.Accepted.{Says}
use Rattle.command_steps.specs.Notes.{NoWrite}
use Rattle.command_steps.specs.Orders.{Course, Ends, Judges, Loads, Order, Task, Puts, Refuses, Runs, Serves, Stores, Tries}
use Rattle.vert_tree.specs.declared.program.Program.{Program}

-- the order stores under this name nowhere
abbrev pub Spares : (Task → Course → Type 0) → List ℕ → Order → Type 0
Spares courses name Ends = Unit {0}
Spares courses name (Refuses fault) = Unit {0}
Spares courses name (Loads other limit too_long next) = (bytes : List ℕ) → Spares courses name (next bytes)
Spares courses name (Tries other limit next) = (file : Option (List ℕ)) → Spares courses name (next file)
Spares courses name (Judges text next) = (program : Program) → Says text program → Spares courses name (next program)
Spares courses name (Runs task next) = (course : Course) → courses task course → Spares courses name (next course)
Spares courses name (Puts text next) = Spares courses name next
Spares courses name (Stores other bytes next) = (name ≢ other) × Spares courses name next
Spares courses name (Serves used text next) = (bytes : List ℕ) → Spares courses name (next bytes)

-- the order stores nothing and leaves the input alone
abbrev pub IsQuiet : (Task → Course → Type 0) → Order → Type 0
IsQuiet courses Ends = Unit {0}
IsQuiet courses (Refuses fault) = Unit {0}
IsQuiet courses (Loads name limit too_long next) = (bytes : List ℕ) → IsQuiet courses (next bytes)
IsQuiet courses (Tries name limit next) = (file : Option (List ℕ)) → IsQuiet courses (next file)
IsQuiet courses (Judges text next) = (program : Program) → Says text program → IsQuiet courses (next program)
IsQuiet courses (Runs task next) = (course : Course) → courses task course → IsQuiet courses (next course)
IsQuiet courses (Puts text next) = IsQuiet courses next
IsQuiet courses (Stores name bytes next) = ⊥
IsQuiet courses (Serves used text next) = ⊥

-- the order refuses nothing by a write fault, so that such a fault comes of a put or of a store alone
abbrev pub BlamesNoWrite : (Task → Course → Type 0) → Order → Type 0
BlamesNoWrite courses Ends = Unit {0}
BlamesNoWrite courses (Refuses fault) = NoWrite ≢ fault
BlamesNoWrite courses (Loads name limit too_long next) =
    (NoWrite ≢ too_long) × ((bytes : List ℕ) → BlamesNoWrite courses (next bytes))
BlamesNoWrite courses (Tries name limit next) = (file : Option (List ℕ)) → BlamesNoWrite courses (next file)
BlamesNoWrite courses (Judges text next) = (program : Program) → BlamesNoWrite courses (next program)
BlamesNoWrite courses (Runs task next) =
    (course : Course) → courses task course → BlamesNoWrite courses (next course)
BlamesNoWrite courses (Puts text next) = BlamesNoWrite courses next
BlamesNoWrite courses (Stores name bytes next) = BlamesNoWrite courses next
BlamesNoWrite courses (Serves used text next) = (bytes : List ℕ) → BlamesNoWrite courses (next bytes)

-- ---- files

-- the name is none of these
abbrev pub IsNoneOf : List ℕ → List (List ℕ) → Type 0
IsNoneOf name [] = Unit {0}
IsNoneOf name (other ∷ names) = (name ≢ other) × IsNoneOf name names

-- what stands under a name is the same, where the files are told
abbrev pub SameAt : List ℕ → Option (List File) → Option (List File) → Type 0
SameAt name None new = Unit {0}
SameAt name (Some old) None = ⊥
SameAt name (Some old) (Some new) = file_named name new ≡ file_named name old

-- what stands under each other name is the same
abbrev pub KeepsOthers : List (List ℕ) → Option (List File) → Option (List File) → Type 0
KeepsOthers names old new = (name : List ℕ) → IsNoneOf name names → SameAt name old new
