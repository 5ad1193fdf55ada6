-- The program's values as plain data.
use Rattle.std.specs.Prelude.{List, map, option_map, String}
use Rattle.std.specs.Borrow.{Bor}
use Rattle.std.specs.Global.{Global}
use Rattle.std.specs.String.{string_bytes}
use Rattle.symple_words.specs.Texts.{Text}
use Rattle.symple_words.specs.Spelling.{Form, Move, Tally, gives, waits, places}
use Rattle.symple_words.specs.Lines.{PlainJob, PlainLine, RunOf, RecordOf, ReplayOf, ResumeOf, ShowOf, FreeOf, PlanOf, DemoOf, RenewOf, SplitOf, WorkerOf}
use Rattle.symple_words.specs.declared.form.Form.{Form as FormValue}
use Rattle.symple_words.specs.declared.spelling.Move.{Move as MoveValue}
use Rattle.symple_words.specs.declared.spelling.Move.TheVariants as move
use Rattle.symple_words.specs.declared.spelling.Tally.{Tally as TallyValue}
use Rattle.symple_words.specs.declared.line.Job.{Job}
use Rattle.symple_words.specs.declared.line.Line.{Line}
use Rattle.symple_words.specs.declared.line.Line.TheVariants as line

abbrev pub texts : List (Bor Text) → List Text
texts = map (λ text. text.now)

-- the texts of words
abbrev pub words_of : List (String Global) → List Text
words_of = map (λ word. string_bytes word)

abbrev pub form_of : FormValue → Form
form_of f = record {
  positionals = texts f.positionals.now;
  options = texts f.options.now;
  flags = texts f.flags.now;
}

abbrev pub move_view : MoveValue → Move
move_view (move.Gives name value) = gives name.now value.now
move_view (move.Waits name) = waits name.now
move_view (move.Places name word) = places name.now word.now

abbrev pub tally_view : TallyValue → Tally
tally_view t = record {
  names = texts t.names.items;
  waiting = option_map (λ name. name.now) t.waiting;
  count = t.count;
}

abbrev pub job_view : Job → PlainJob
job_view job = record {
  program = string_bytes job.program;
  graph = string_bytes job.graph;
  form = job.form;
  lines = job.lines;
  draws = job.draws;
}

-- a line as plain data
abbrev pub line_view : Line → PlainLine
line_view (line.RunLine job machines image) =
    RunOf (job_view job) machines (option_map (λ name. string_bytes name) image)
line_view (line.RecordLine job schedule machines seed lossy) =
    RecordOf (job_view job) (string_bytes schedule) machines seed lossy
line_view (line.ReplayLine job schedule) = ReplayOf (job_view job) (string_bytes schedule)
line_view (line.ShowLine program) = ShowOf (string_bytes program)
line_view (line.PlanLine graph form machines) = PlanOf (string_bytes graph) form machines
line_view (line.DemoLine seed machines) = DemoOf seed machines
line_view (line.RenewLine schedule target) = RenewOf (string_bytes schedule) (string_bytes target)
line_view (line.SplitLine program graph prefix form machines draws) =
    SplitOf (string_bytes program) (string_bytes graph) (string_bytes prefix) form machines draws
line_view (line.WorkerLine part rows) = WorkerOf (string_bytes part) (string_bytes rows)
line_view (line.FreeLine program) = FreeOf (string_bytes program)
line_view (line.ResumeLine job image machines) =
    ResumeOf (job_view job) (string_bytes image) machines
