-- What the reader answers.
use Rattle.std.specs.Prelude.{List, ℕ, Result, Ok, Err}
use Rattle.program_reader.specs.declared.refusal.ProgramFault.{ProgramFault}
use Rattle.program_reader.specs.declared.refusal.ProgramFault.TheVariants as fault
use Rattle.program_reader.specs.Accepted.{Refuses, Says}
use Rattle.vert_tree.specs.declared.typed.Typed.{Typed}

-- the program that a text says, or why and where it is refused
abbrev pub ReadsProgram : List ℕ → Result Typed ProgramFault → Type 0
ReadsProgram text (Ok typed) = Says text typed.program
ReadsProgram text (Err (fault.Refused refusal)) = Refuses text refusal
ReadsProgram text (Err fault.Want) = Unit {0}
