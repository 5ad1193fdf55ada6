-- The lines of words: what each command takes from the words that are spelt right.
use Rattle.std.specs.Prelude.{◌&&◌, ◌||◌, ℕ, Bool, not, List, [], ◌∷◌, Option, Some, None, is_some, codes, if◌then◌else◌}
use Rattle.std.specs.Prelude.{option_and_then, Result, Ok, Err}
use Rattle.vert_base.specs.declared.limits.TheConstants.{MACHINES, VERTICES}
use Rattle.symple_words.specs.Texts.{Text}
use Rattle.symple_words.specs.Spelling.{Given, given_by, value_at, has_given}
use Rattle.symple_words.specs.Numbers.{number_in, number_if, number_or}
use Rattle.symple_words.specs.Commands.{verb_of, form_for}
use Rattle.symple_words.specs.declared.line.GraphForm.{GraphForm}
use Rattle.symple_words.specs.declared.line.Lines.{Lines}
use Rattle.symple_words.specs.declared.verb.Verb.{Verb}
use Rattle.symple_words.specs.declared.verb.Verb.TheVariants as verb

-- the program and the graph of a run, how the graph is read, which lines are written, and the draws
pub record PlainJob : Type 0 where
  pub program : Text
  pub graph : Text
  pub form : GraphForm
  pub lines : Lines
  pub draws : ℕ

-- a line as plain data
pub data PlainLine : Type 0 where
  RunOf : (job : PlainJob) (machines : ℕ) (image : Option Text) → PlainLine
  RecordOf : (job : PlainJob) (schedule : Text) (machines seed : ℕ) (lossy : Bool) → PlainLine
  ReplayOf : (job : PlainJob) (schedule : Text) → PlainLine
  ResumeOf : (job : PlainJob) (image : Text) (machines : ℕ) → PlainLine
  ShowOf : (program : Text) → PlainLine
  FreeOf : (program : Text) → PlainLine
  PlanOf : (graph : Text) (form : GraphForm) (machines : ℕ) → PlainLine
  DemoOf : (seed machines : ℕ) → PlainLine
  RenewOf : (schedule target : Text) → PlainLine
  SplitOf : (program graph prefix : Text) (form : GraphForm) (machines draws : ℕ) → PlainLine
  WorkerOf : (part rows : Text) → PlainLine

-- no command, or words that the command does not take
pub data LineFault : Type 0 where
  NoCommand : LineFault
  BadWords : LineFault

-- ---- parts of lines

-- the greatest number of 64 bits
abbrev pub greatest : ℕ
greatest = 18446744073709551615

-- `--weighted` goes with `--binary` alone, and `--vertices` without it
abbrev pub graph_form_by : Option (Option ℕ) → Bool → Bool → Bool → Option GraphForm
graph_form_by None both binary weighted = None
graph_form_by (Some vertices) both binary weighted =
    if (weighted && not binary) || (is_some vertices && binary) then None
    else Some (record { vertices = vertices; both = both; binary = binary; weighted = weighted })

-- how the graph is to be read
abbrev pub graph_form_from : Given → Option GraphForm
graph_form_from given = graph_form_by (number_if 0 VERTICES (value_at (codes "vertices") given))
    (has_given (codes "both") given) (has_given (codes "binary") given)
    (has_given (codes "weighted") given)

-- which lines are asked for
abbrev pub lines_from : Given → Lines
lines_from given = record {
  rounds = has_given (codes "rounds") given;
  reads = has_given (codes "reads") given;
  log = has_given (codes "log") given;
}

abbrev pub machines_from : Given → Option ℕ
machines_from given = option_and_then (number_in 1 MACHINES) (value_at (codes "machines") given)

-- 4 machines where none are named
abbrev pub machines_or_four : Given → Option ℕ
machines_or_four given = number_or 4 1 MACHINES (value_at (codes "machines") given)

abbrev pub draws_from : Given → Option ℕ
draws_from given = number_or 0 0 greatest (value_at (codes "draws") given)

abbrev pub seed_from : Given → Option ℕ
seed_from given = option_and_then (number_in 0 greatest) (value_at (codes "seed") given)

abbrev pub job_by : Option Text → Option Text → Option GraphForm → Lines → Option ℕ → Option PlainJob
job_by (Some program) (Some graph) (Some form) lines (Some draws) =
    Some (record { program = program; graph = graph; form = form; lines = lines; draws = draws })
job_by _ _ _ _ _ = None

abbrev pub job_from : Given → Option PlainJob
job_from given = job_by (value_at (codes "program") given) (value_at (codes "graph") given)
    (graph_form_from given) (lines_from given) (draws_from given)

-- ---- the lines

abbrev pub run_by : Option PlainJob → Option ℕ → Option Text → Option PlainLine
run_by (Some job) (Some machines) image = Some (RunOf job machines image)
run_by _ _ _ = None

abbrev pub record_by : Option PlainJob → Option Text → Option ℕ → Option ℕ → Bool → Option PlainLine
record_by (Some job) (Some schedule) (Some machines) (Some seed) lossy =
    Some (RecordOf job schedule machines seed lossy)
record_by _ _ _ _ _ = None

abbrev pub replay_by : Option PlainJob → Option Text → Option PlainLine
replay_by (Some job) (Some schedule) = Some (ReplayOf job schedule)
replay_by _ _ = None

abbrev pub resume_by : Option PlainJob → Option Text → Option ℕ → Option PlainLine
resume_by (Some job) (Some image) (Some machines) = Some (ResumeOf job image machines)
resume_by _ _ _ = None

abbrev pub one_text : (Text → PlainLine) → Option Text → Option PlainLine
one_text make (Some text) = Some (make text)
one_text make None = None

abbrev pub two_texts : (Text → Text → PlainLine) → Option Text → Option Text → Option PlainLine
two_texts make (Some first) (Some second) = Some (make first second)
two_texts make _ _ = None

abbrev pub plan_by : Option Text → Option GraphForm → Option ℕ → Option PlainLine
plan_by (Some graph) (Some form) (Some machines) = Some (PlanOf graph form machines)
plan_by _ _ _ = None

abbrev pub demo_by : Option ℕ → Option ℕ → Option PlainLine
demo_by (Some seed) (Some machines) = Some (DemoOf seed machines)
demo_by _ _ = None

abbrev pub split_by : Option Text → Option Text → Option Text → Option GraphForm → Option ℕ → Option ℕ →
    Option PlainLine
split_by (Some program) (Some graph) (Some prefix) (Some form) (Some machines) (Some draws) =
    Some (SplitOf program graph prefix form machines draws)
split_by _ _ _ _ _ _ = None

-- the line of a command that its words give, where they are right
abbrev pub line_from : Verb → Given → Option PlainLine
line_from verb.Run given =
    run_by (job_from given) (machines_from given) (value_at (codes "image") given)
line_from verb.Record given = record_by (job_from given) (value_at (codes "schedule") given)
    (machines_from given) (seed_from given) (has_given (codes "lossy") given)
line_from verb.Replay given = replay_by (job_from given) (value_at (codes "schedule") given)
line_from verb.Resume given =
    resume_by (job_from given) (value_at (codes "image") given) (machines_from given)
line_from verb.Show given = one_text ShowOf (value_at (codes "program") given)
line_from verb.Free given = one_text FreeOf (value_at (codes "program") given)
line_from verb.Plan given =
    plan_by (value_at (codes "graph") given) (graph_form_from given) (machines_from given)
line_from verb.Demo given = demo_by (seed_from given) (machines_or_four given)
line_from verb.Renew given =
    two_texts RenewOf (value_at (codes "schedule") given) (value_at (codes "target") given)
line_from verb.Split given = split_by (value_at (codes "program") given)
    (value_at (codes "graph") given) (value_at (codes "prefix") given)
    (graph_form_from given) (machines_from given) (draws_from given)
line_from verb.Worker given =
    two_texts WorkerOf (value_at (codes "part") given) (value_at (codes "rows") given)

abbrev pub or_bad_words : Option PlainLine → Result PlainLine LineFault
or_bad_words (Some line) = Ok line
or_bad_words None = Err BadWords

abbrev pub line_behind : Option Verb → List Text → Result PlainLine LineFault
line_behind (Some v) rest =
    or_bad_words (option_and_then (line_from v) (given_by (form_for v) rest))
line_behind None rest = Err NoCommand

-- the line that the words are
abbrev pub line_of : List Text → Result PlainLine LineFault
line_of [] = Err NoCommand
line_of (first ∷ rest) = line_behind (verb_of first) rest
