-- That files change only as a whole run leaves them, or as a write fails.
use Rattle.std.specs.Prelude.{◌≡◌, ◌⊎◌, IfErr, List, Option, Result}
use Rattle.command_steps.specs.declared.failure.Failure.{Failure}
use Rattle.command_steps.specs.Faults.{fault_of}
use Rattle.command_steps.specs.Notes.{NoWrite}
use Rattle.outside.specs.Files.{File}

-- where it doesn't end well the files are as before, but where a write failed
abbrev pub ChangesByWriting : Option (List File) → Option (List File) → Result (Unit {0}) Failure → Type 0
ChangesByWriting old new result = IfErr result (λ failure. (fault_of failure ≡ NoWrite) ⊎ (new ≡ old))
