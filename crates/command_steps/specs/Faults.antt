-- A failure without its memory.
use Rattle.std.specs.Prelude.{codes}
use Rattle.std.specs.String.{string_bytes}
use Rattle.command_steps.specs.declared.failure.Failure.{Failure}
use Rattle.command_steps.specs.declared.failure.Failure.TheVariants as failure
use Rattle.symple_words.specs.declared.fault.WordFault.{WordFault}
use Rattle.symple_words.specs.declared.fault.WordFault.TheVariants as word
use Rattle.command_steps.specs.Notes.{BadByte, BadEvent, BadEventLine, BadHeader, BadLine, BadMessage, BadPart, BadProgram, BadWords, EndsEarly, Fault, LongSchedule, NoCommand, NoLoad, NoMemory, NoWrite, NotGone, NotTaken}

abbrev pub fault_of : Failure → Fault
fault_of failure.Command = NoCommand
fault_of failure.Words = BadWords
fault_of (failure.Load name) = NoLoad (string_bytes name)
fault_of (failure.Program refusal) = BadProgram refusal
fault_of (failure.GraphLine code line) = BadLine code line
fault_of (failure.GraphByte code at) = BadByte code at
fault_of failure.ScheduleHeader = BadHeader
fault_of (failure.ScheduleLine line) = BadEventLine line
fault_of failure.LongSchedule = LongSchedule
fault_of (failure.Event line why) = BadEvent line why
fault_of (failure.NotTaken name) = NotTaken name
fault_of (failure.NotGone machine) = NotGone machine
fault_of (failure.Part code) = BadPart code
fault_of (failure.Message code at) = BadMessage code at
fault_of (failure.EndsEarly name) = EndsEarly name
fault_of failure.Input = NoLoad (codes "input")
fault_of failure.Write = NoWrite
fault_of failure.Memory = NoMemory

-- why words are refused
abbrev pub failure_for : WordFault → Failure
failure_for word.Command = failure.Command
failure_for word.Words = failure.Words
failure_for word.Want = failure.Memory
