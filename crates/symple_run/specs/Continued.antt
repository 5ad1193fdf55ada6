-- A run that was stopped and is gone on with puts the rest of what the whole run puts.
use Rattle.std.specs.Prelude.{◌≡◌, false, ℕ, List, [], ◌∷◌, ◌++◌, Option, None, Some, flat_map, map}
use Rattle.array_text.specs.Tables.{table_text}
use Rattle.check_point.specs.Laws.{told_start}
use Rattle.command_steps.specs.Courses.{course_text}
use Rattle.command_steps.specs.Orders.{Course, Origin, Play}
use Rattle.instrument.specs.declared.split.Split.{Split}
use Rattle.plain_run.specs.Told.{told_played}
use Rattle.schedule_laws.specs.Texts.{told_lines}
use Rattle.symple_face.specs.Work.{PlainStart}
use Rattle.symple_run.specs.KeptImages.{key_for}
use Rattle.symple_run.specs.Resumes.{IsImage, later_of}
use Rattle.symple_run.specs.SourceImages.{start_before}
use Rattle.symple_run.specs.SourceRuns.{IsSourceResumed}
use Rattle.symple_run.specs.SourceTexts.{job_of, play_text}
use Rattle.symple_words.specs.declared.line.Lines.{Lines}
use Rattle.vert_eval.specs.SourceRun.{Played, Run, source_run}

-- the run leaves this start: it is what stands before one of its rounds but the first
pub record LeavesStart (run : Run) (start : PlainStart) : Type 0 where
  pub first : Played
  pub others : List Played
  pub at : Played
  pub behind : List Played
  pub rounds_are : run.rounds ≡ (first ∷ others) ++ at ∷ behind
  pub start_is : start ≡ start_before at

abbrev pub run_played : Play → Run
run_played play = source_run (job_of play.machines play.draws play.program play.graph)

-- where a file is read as an image of this run, this run leaves the start that it tells
abbrev pub IsOfRun : Play → Split → List ℕ → Option (List ℕ) → Type 0
IsOfRun play split key None = Unit {0}
IsOfRun play split key (Some bytes) = IsImage split play.graph.vertices key bytes →
    LeavesStart (run_played play) (told_start split play.graph.vertices bytes)

-- the lines of rounds
abbrev pub rounds_text : Lines → List Played → List ℕ
rounds_text lines rounds = flat_map (told_lines lines) (map (told_played lines.reads) rounds)

-- the rounds that come from a start on: all where there is none
abbrev pub BeginWith : Option PlainStart → List Played → List Played → Type 0
BeginWith None before behind = before ≡ []
BeginWith (Some start) before [] = ⊥
BeginWith (Some start) before (at ∷ behind) = start ≡ start_before at

-- the rounds of a run in two parts, of which the second one and the table are put
pub record IsTheRest (play : Play) (found : Option PlainStart) (text : List ℕ) : Type 0 where
  pub before : List Played
  pub behind : List Played
  pub rounds_are : (run_played play).rounds ≡ before ++ behind
  pub begin : BeginWith found before behind
  pub text_is : rounds_text play.lines before ++ text ≡ play_text play

-- the text ends with the table of the whole run
pub record HasItsTable (play : Play) (text : List ℕ) : Type 0 where
  pub front : List ℕ
  pub text_is : text ≡ front ++ table_text play.program (run_played play).last.rows

-- What `resume` puts where each of its two files that is an image at all is one of this run: exactly the lines of the
-- rounds from the found start on and the table, so that with the lines before it is the text of the whole run. Under
-- `--log`, where the lines of events stand between these, the table is that of the whole run too.
abbrev pub EveryStopGoesOn : Type 0
EveryStopGoesOn =
    (play : Play) (origin : Origin) (even odd : Option (List ℕ)) (course : Course)
    (is : IsSourceResumed play origin even odd course) →
    IsOfRun play is.split (key_for play origin) even → IsOfRun play is.split (key_for play origin) odd →
    (play.lines.log ≡ false → IsTheRest play (later_of is.first is.second) (course_text course))
    × HasItsTable play (course_text course)
