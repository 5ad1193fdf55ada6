use Rattle.std.specs.List.{All}
use Rattle.program_reader.specs.Accepted.{Says}
use Rattle.run_tests.proofs.parts.check_case.Given as goal

-- each part has the program of the text
abbrev pub invariant-parts : goal.invariant-parts
invariant-parts g l = All (λ part. Says l.case.program.now part.split.value.program.program) l.part-items
