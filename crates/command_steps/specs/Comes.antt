-- How an order comes out over files that are told, where nothing of the outside fails.
use Rattle.std.specs.Prelude.{◌≡◌, ◌<◌, ◌-◌, ℕ, List, Option, Some, None, MatchBool, drop, length, nat_lt}
use Rattle.program_reader.specs.declared.refusal.Refusal.{Refusal}
use Rattle.program_reader.specs.Accepted.{Refuses as RefusesText, Says}
use Rattle.outside.specs.Files.{File, file_named, with_file}
use Rattle.command_steps.specs.Notes.{BadProgram, Fault, NoLoad}
use Rattle.command_steps.specs.Orders.{Course, Drawn, DrawnLossy, Ends, Followed, Imaged, Judges, Loads, Order, Parted, Plain, Puts, Refuses, Renewed, Resumed, Runs, Served, Serves, Shown, Stores, Task, Tries}
use Rattle.vert_tree.specs.declared.program.Program.{Program}

-- a fact for a file that lacks, for one that is too long, and for one within the limit
abbrev pub ByFile : ℕ → Option (List ℕ) → Type 0 → Type 0 → (List ℕ → Type 0) → Type 0
ByFile limit None lacks long within = lacks
ByFile limit (Some bytes) lacks long within = MatchBool (nat_lt limit (length bytes)) long (within bytes)

-- a fact for the bytes of an input, which are told
abbrev pub OfInput : Option (List ℕ) → (List ℕ → Type 0) → Type 0
OfInput None P = ⊥
OfInput (Some bytes) P = P bytes

-- a fact for a course that the task may take; where the program is that of a part's text, for each, whichever program
-- the text says
abbrev pub ByCourse : (Task → Course → Type 0) → Task → (Course → Type 0) → Type 0
ByCourse courses (Plain play) P = (course : Course) × courses (Plain play) course × P course
ByCourse courses (Imaged play origin image) P = (course : Course) × courses (Imaged play origin image) course × P course
ByCourse courses (Resumed play origin even odd) P =
    (course : Course) × courses (Resumed play origin even odd) course × P course
ByCourse courses (Drawn play seed schedule) P = (course : Course) × courses (Drawn play seed schedule) course × P course
ByCourse courses (DrawnLossy play seed schedule) P =
    (course : Course) × courses (DrawnLossy play seed schedule) course × P course
ByCourse courses (Followed play schedule) P = (course : Course) × courses (Followed play schedule) course × P course
ByCourse courses (Shown seed machines) P = (course : Course) × courses (Shown seed machines) course × P course
ByCourse courses (Renewed schedule target) P = (course : Course) × courses (Renewed schedule target) course × P course
ByCourse courses (Parted play program prefix) P =
    (course : Course) × courses (Parted play program prefix) course × P course
ByCourse courses (Served part rows) P = (course : Course) → courses (Served part rows) course → P course

-- the order comes out so, over these files and this input, whichever program a text says: with no fault, or with one
abbrev pub Comes : (Task → Course → Type 0) → Order → List File → Option (List ℕ) → Option Fault → Type 0
Comes courses Ends files input outcome = outcome ≡ None
Comes courses (Refuses fault) files input outcome = outcome ≡ Some fault
Comes courses (Loads name limit too_long next) files input outcome =
    ByFile limit (file_named name files) (outcome ≡ Some (NoLoad name)) (outcome ≡ Some too_long)
    (λ bytes. Comes courses (next bytes) files input outcome)
Comes courses (Tries name limit next) files input outcome =
    ByFile limit (file_named name files) (Comes courses (next None) files input outcome)
    (Comes courses (next None) files input outcome)
    (λ bytes. Comes courses (next (Some bytes)) files input outcome)
Comes courses (Judges text next) files input outcome =
    ((refusal : Refusal) → RefusesText text refusal → outcome ≡ Some (BadProgram refusal))
    × ((program : Program) → Says text program → Comes courses (next program) files input outcome)
Comes courses (Runs task next) files input outcome =
    ByCourse courses task (λ course. Comes courses (next course) files input outcome)
Comes courses (Puts text next) files input outcome = Comes courses next files input outcome
Comes courses (Stores name bytes next) files input outcome =
    Comes courses next (with_file name bytes files) input outcome
Comes courses (Serves used text next) files input outcome =
    OfInput input (λ bytes. Comes courses (next bytes) files (Some (drop (used bytes) bytes)) outcome)

-- the texts that the order puts over these files and this input are fewer than so many bytes
abbrev pub Fits : (Task → Course → Type 0) → Order → List File → Option (List ℕ) → ℕ → Type 0
Fits courses Ends files input room = Unit {0}
Fits courses (Refuses fault) files input room = Unit {0}
Fits courses (Loads name limit too_long next) files input room =
    ByFile limit (file_named name files) (Unit {0}) (Unit {0})
    (λ bytes. Fits courses (next bytes) files input room)
Fits courses (Tries name limit next) files input room =
    ByFile limit (file_named name files) (Fits courses (next None) files input room)
    (Fits courses (next None) files input room)
    (λ bytes. Fits courses (next (Some bytes)) files input room)
Fits courses (Judges text next) files input room =
    (program : Program) → Says text program → Fits courses (next program) files input room
Fits courses (Runs task next) files input room =
    (course : Course) → courses task course → Fits courses (next course) files input room
Fits courses (Puts text next) files input room =
    (length text < room) × Fits courses next files input (room - length text)
Fits courses (Stores name bytes next) files input room =
    Fits courses next (with_file name bytes files) input room
Fits courses (Serves used text next) files input room = OfInput input (λ bytes.
    (length (text bytes) < room)
    × Fits courses (next bytes) files (Some (drop (used bytes) bytes)) (room - length (text bytes)))
