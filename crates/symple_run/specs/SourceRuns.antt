-- The courses of runs that the source's run tells.
use Rattle.std.specs.Prelude.{◌≡◌, ℕ, false, List, Option, None, Some}
use Rattle.instrument.specs.declared.split.Split.{Split}
use Rattle.schedule_laws.specs.OutputText.{output_text}
use Rattle.symple_face.specs.CoreWork.{core_work}
use Rattle.symple_face.specs.Work.{PlainStart}
use Rattle.command_steps.specs.Courses.{course_text}
use Rattle.command_steps.specs.Orders.{Course, Drawn, DrawnLossy, Fails, Followed, Imaged, IsOver, Keeps, Origin, Parted, Plain, Play, Prints, Renewed, Resumed, Served, Shown, Takes, Task}
use Rattle.part_runs.specs.Parting.{IsParted}
use Rattle.part_runs.specs.Serving.{IsServing}
use Rattle.symple_run.specs.Followed.{IsRenewed}
use Rattle.symple_run.specs.SourceSchedules.{IsSourceLossy, IsSourceRecord, IsSourceReplay}
use Rattle.symple_run.specs.Shows.{IsSourceShow}
use Rattle.symple_run.specs.SourceTexts.{HasParts, first_order, job_of, later_order, play_text, source_from, source_on}
use Rattle.symple_run.specs.KeptImages.{key_for}
use Rattle.symple_run.specs.Resumes.{Tells, later_of}
use Rattle.symple_run.specs.SourceImages.{begun_text, files_kept, images_of}
use Rattle.symple_run.specs.SourceStores.{imaged_by_source}
use Rattle.machine_runs.specs.SourceTellings.{IsPlainOrder}
use Rattle.vert_base.specs.declared.message.Event.{Event}
use Rattle.vert_eval.specs.SourceRun.{source_run}
use Rattle.word_kinds.specs.Fits.{IsFitting}

-- the run puts texts, and then it is over
abbrev pub IsPrinted : Course → Type 0
IsPrinted IsOver = Unit {0}
IsPrinted (Fails fault) = ⊥
IsPrinted (Prints text rest) = IsPrinted rest
IsPrinted (Keeps name bytes rest) = ⊥
IsPrinted (Takes used text rest) = ⊥

-- the text with the line of each event, which are the plain ones, each told by the source's run
pub record IsLogged (play : Play) (text : List ℕ) : Type 0 where
  pub on : HasParts play
  pub events : List Event
  pub plain : IsPlainOrder (source_on play on) (first_order play on) events
  pub is : text ≡ output_text play.lines (source_on play on) (first_order play on) events

-- the run puts the text of the source's run, and then it is over
pub record IsSourcePlay (play : Play) (course : Course) : Type 0 where
  pub printed : IsPrinted course
  pub text : play.lines.log ≡ false → course_text course ≡ play_text play
  pub logged : IsLogged play (course_text course)

-- The run puts the same text, and stores the images of the source's run, each in its turn.
pub record IsSourceImaged (play : Play) (origin : Origin) (image : List ℕ) (course : Course) : Type 0 where
  pub on : HasParts play
  pub fits : IsFitting on.split.program.program
  pub events : List Event
  pub plain : IsPlainOrder (source_on play on) (first_order play on) events
  pub course_is : course ≡ imaged_by_source play.lines (source_on play on) (key_for play origin) image
      (first_order play on) events
  pub text : play.lines.log ≡ false → course_text course ≡ play_text play
  pub images : files_kept course ≡ images_of (key_for play origin) image
      (source_run (job_of play.machines play.draws play.program play.graph))

-- the same of a run that goes on from a start
pub record IsLoggedFrom (play : Play) (start : PlainStart) (text : List ℕ) : Type 0 where
  pub on : HasParts play
  pub events : List Event
  pub plain : IsPlainOrder (source_from play on start) (later_order play on start) events
  pub is : text ≡ output_text play.lines (source_from play on start) (later_order play on start) events

abbrev pub IsBegunLog : Play → Option PlainStart → List ℕ → Type 0
IsBegunLog play None text = IsLogged play text
IsBegunLog play (Some start) text = IsLoggedFrom play start text

-- The run puts the text of the source's run from the later of the starts that two files tell, and then it is over.
pub record IsSourceResumed (play : Play) (origin : Origin) (even odd : Option (List ℕ)) (course : Course) : Type 0
  where
    pub printed : IsPrinted course
    pub split : Split
    pub program_is : split.program.program ≡ play.program
    pub first : Option PlainStart
    pub first_told : Tells split play.graph.vertices (key_for play origin) even first
    pub second : Option PlainStart
    pub second_told : Tells split play.graph.vertices (key_for play origin) odd second
    pub text : play.lines.log ≡ false → course_text course ≡ begun_text play (later_of first second)
    pub logged : IsBegunLog play (later_of first second) (course_text course)

-- the task goes as the source's run tells
abbrev pub IsSourceRun : Task → Course → Type 0
IsSourceRun (Plain play) course = IsSourcePlay play course
IsSourceRun (Imaged play origin image) course = IsSourceImaged play origin image course
IsSourceRun (Resumed play origin even odd) course = IsSourceResumed play origin even odd course
IsSourceRun (Drawn play seed schedule) course = IsSourceRecord play seed schedule course
IsSourceRun (DrawnLossy play seed schedule) course = IsSourceLossy play seed schedule course
IsSourceRun (Followed play schedule) course = IsSourceReplay play schedule course
IsSourceRun (Shown seed machines) course = IsSourceShow seed machines course
IsSourceRun (Renewed schedule target) course = IsRenewed schedule target course
IsSourceRun (Parted play program prefix) course = IsParted play program prefix course
IsSourceRun (Served part rows) course = IsServing core_work part rows course
