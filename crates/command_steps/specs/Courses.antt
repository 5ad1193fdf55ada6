-- What stands of a run in the sink.
use Rattle.std.specs.Prelude.{◌≡◌, ◌⊎◌, ℕ, List, [], ◌++◌, Option, Some, None}
use Rattle.outside.specs.Bytes.{gained, GainedPart}
use Rattle.command_steps.specs.Notes.{Fault, NoMemory, NoWrite}
use Rattle.command_steps.specs.Orders.{Course, Fails, IsOver, Keeps, Prints, Takes}

-- the input is left alone
abbrev pub TakesNothing : Course → Type 0
TakesNothing IsOver = Unit {0}
TakesNothing (Fails fault) = Unit {0}
TakesNothing (Prints text rest) = TakesNothing rest
TakesNothing (Keeps name bytes rest) = TakesNothing rest
TakesNothing (Takes used text rest) = ⊥

-- all that a run puts that leaves the input alone
abbrev pub course_text : Course → List ℕ
course_text IsOver = []
course_text (Fails fault) = []
course_text (Prints text rest) = text ++ course_text rest
course_text (Keeps name bytes rest) = course_text rest
course_text (Takes used text rest) = []

-- how it ends
abbrev pub course_end : Course → Option Fault
course_end IsOver = None
course_end (Fails fault) = Some fault
course_end (Prints text rest) = course_end rest
course_end (Keeps name bytes rest) = course_end rest
course_end (Takes used text rest) = None

-- the run came to its end and all its text stands; or a write failed or memory was wanting, and a first
-- part of it does
abbrev pub Stands : Course → Option (List ℕ) → Option (List ℕ) → Option Fault → Type 0
Stands course old new outcome =
    ((outcome ≡ course_end course) × (new ≡ gained old (course_text course)))
    ⊎ (((outcome ≡ Some NoWrite) ⊎ (outcome ≡ Some NoMemory)) × GainedPart old new (course_text course))
