-- Which lines are those of `record`.
use Rattle.std.specs.Prelude.{Bool, Err, List, Ok, Result, false, true, ℕ}
use Rattle.symple_words.specs.Lines as words

abbrev pub is_record : words.PlainLine → Bool
is_record (words.RunOf job machines image) = false
is_record (words.RecordOf job schedule machines seed lossy) = true
is_record (words.ReplayOf job schedule) = false
is_record (words.ResumeOf job image machines) = false
is_record (words.ShowOf program) = false
is_record (words.FreeOf program) = false
is_record (words.PlanOf graph form machines) = false
is_record (words.DemoOf seed machines) = false
is_record (words.RenewOf schedule target) = false
is_record (words.SplitOf program graph prefix form machines draws) = false
is_record (words.WorkerOf part rows) = false

abbrev pub is_record_if : Result words.PlainLine words.LineFault → Bool
is_record_if (Ok line) = is_record line
is_record_if (Err fault) = false

-- whether the words ask that a run be recorded, over links or not
abbrev pub records : List (List ℕ) → Bool
records texts = is_record_if (words.line_of texts)
