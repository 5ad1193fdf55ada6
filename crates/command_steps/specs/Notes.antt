-- The status of each failure, and the line that tells of it.
use Rattle.std.specs.Prelude.{ℕ, List, ◌++◌, codes, decimal}
use Rattle.command_steps.specs.declared.impossible.Impossible.{Impossible}
use Rattle.command_steps.specs.declared.impossible.Impossible.TheVariants as impossible
use Rattle.command_steps.specs.declared.status.Status.{Status}
use Rattle.command_steps.specs.declared.status.Status.TheVariants as status
use Rattle.program_reader.specs.declared.refusal.Stage.{Stage}
use Rattle.program_reader.specs.declared.refusal.Stage.TheVariants.{Tokens, Grammar, Typing}
use Rattle.program_reader.specs.declared.refusal.Refusal.{Refusal}
use Rattle.vert_base.specs.declared.message.Name.{Name}
use Rattle.vert_base.specs.NameTexts.{name_text}

abbrev pub stage_letter : Stage → List ℕ
stage_letter Tokens = codes "L"
stage_letter Grammar = codes "P"
stage_letter Typing = codes "Y"

-- a failure without its memory
pub data Fault : Type 0 where
  NoCommand : Fault
  BadWords : Fault
  NoLoad : (name : List ℕ) → Fault
  BadProgram : (refusal : Refusal) → Fault
  BadLine : (code line : ℕ) → Fault
  BadByte : (code at : ℕ) → Fault
  -- a schedule's first line, a later line by its number, and its length
  BadHeader : Fault
  BadEventLine : (line : ℕ) → Fault
  LongSchedule : Fault
  -- the event of that line can't happen; or the run isn't finished after the last one
  BadEvent : (line : ℕ) (why : Impossible) → Fault
  NotTaken : (name : Name) → Fault
  NotGone : (machine : ℕ) → Fault
  BadPart : (code : ℕ) → Fault
  BadMessage : (code at : ℕ) → Fault
  -- the input ends where this message is waited for
  EndsEarly : (name : Name) → Fault
  NoWrite : Fault
  NoMemory : Fault

abbrev pub status_of : Fault → Status
status_of NoCommand = status.Usage
status_of BadWords = status.Usage
status_of (NoLoad name) = status.ReadFault
status_of (BadProgram refusal) = status.BadProgram
status_of (BadLine code line) = status.BadGraph
status_of (BadByte code at) = status.BadGraph
status_of BadHeader = status.BadSchedule
status_of (BadEventLine line) = status.BadSchedule
status_of LongSchedule = status.BadSchedule
status_of (BadEvent line why) = status.BadSchedule
status_of (NotTaken name) = status.BadSchedule
status_of (NotGone machine) = status.BadSchedule
status_of (BadPart code) = status.BadGraph
status_of (BadMessage code at) = status.BadMessage
status_of (EndsEarly name) = status.BadMessage
status_of NoWrite = status.WriteFault
status_of NoMemory = status.Memory

-- why an event can't happen
abbrev pub why_text : Impossible → List ℕ
why_text (impossible.NoMachine machine) = codes "no machine " ++ decimal machine
why_text (impossible.Waits machine name) =
    codes "machine " ++ (decimal machine ++ (codes " waits for " ++ name_text name))
why_text (impossible.MachineOver machine) = codes "machine " ++ (decimal machine ++ codes " is over")
why_text (impossible.NotUnderWay name) = name_text name ++ codes " is not under way"
why_text impossible.RunOver = codes "the run is over"
why_text (impossible.NotAgain name) = name_text name ++ codes " cannot be sent again"
why_text (impossible.NoAck name) = codes "no ack of " ++ (name_text name ++ codes " is under way")

-- the line that tells of a fault
abbrev pub note_text : Fault → List ℕ
note_text NoCommand = codes "symple: unknown command\n"
note_text BadWords = codes "symple: bad arguments\n"
note_text (NoLoad name) = codes "symple: cannot read " ++ (name ++ codes "\n")
note_text (BadProgram refusal) =
    codes "symple: program: "
    ++ (stage_letter refusal.stage ++ (decimal refusal.number
    ++ (codes " at " ++ (decimal refusal.span.line ++ (codes ":" ++ (decimal refusal.span.column ++ codes "\n"))))))
note_text (BadLine code line) = codes "symple: graph: E"
    ++ (decimal code ++ (codes " at line " ++ (decimal line ++ codes "\n")))
note_text (BadByte code at) = codes "symple: graph: E"
    ++ (decimal code ++ (codes " at byte " ++ (decimal at ++ codes "\n")))
note_text BadHeader = codes "symple: schedule: line 1: bad header\n"
note_text (BadEventLine line) = codes "symple: schedule: line " ++ (decimal line ++ codes ": bad line\n")
note_text LongSchedule = codes "symple: schedule: more than 67108864 bytes\n"
note_text (BadEvent line why) =
    codes "symple: schedule: line " ++ (decimal line ++ (codes ": " ++ (why_text why ++ codes "\n")))
note_text (NotTaken name) = codes "symple: schedule: " ++ (name_text name ++ codes " was not taken\n")
note_text (NotGone machine) = codes "symple: schedule: machine " ++ (decimal machine ++ codes " did not go\n")
note_text (BadPart code) = codes "symple: part: K" ++ (decimal code ++ codes "\n")
note_text (BadMessage code at) = codes "symple: message: M"
    ++ (decimal code ++ (codes " at byte " ++ (decimal at ++ codes "\n")))
note_text (EndsEarly name) = codes "symple: message: M6 waits for " ++ (name_text name ++ codes "\n")
note_text NoWrite = codes "symple: cannot write\n"
note_text NoMemory = codes "symple: out of memory\n"

-- the number with which the process ends
abbrev pub status_number : Status → ℕ
status_number status.Done = 0
status_number status.Usage = 1
status_number status.ReadFault = 2
status_number status.BadProgram = 3
status_number status.BadGraph = 4
status_number status.BadSchedule = 5
status_number status.WriteFault = 6
status_number status.Memory = 7
status_number status.BadMessage = 8
