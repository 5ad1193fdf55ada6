-- The images of the source's run, and what it tells from a start on.
use Rattle.std.specs.Prelude.{◌-◌, ℕ, List, [], ◌∷◌, Option, None, Some, map}
use Rattle.check_point.specs.Images.{image_bytes}
use Rattle.command_steps.specs.Commands.{image_name}
use Rattle.command_steps.specs.Orders.{Course, Fails, IsOver, Keeps, Play, Prints, Takes}
use Rattle.outside.specs.Files.{File}
use Rattle.schedule_laws.specs.Texts.{text_of_run}
use Rattle.symple_face.specs.Work.{PlainStart}
use Rattle.symple_run.specs.SourceTexts.{job_of, play_text}
use Rattle.vert_eval.specs.SourceRun.{Played, Run, Standing, resumed_run}

-- the files that a course stores, in turn
abbrev pub files_kept : Course → List File
files_kept IsOver = []
files_kept (Fails fault) = []
files_kept (Prints text rest) = files_kept rest
files_kept (Keeps name bytes rest) = record { name = name; bytes = bytes } ∷ files_kept rest
files_kept (Takes used text rest) = []

-- what stood before a round that took place, as a start
abbrev pub start_before : Played → PlainStart
start_before played = record {
  round = played.round;
  ruling = played.before.ruling;
  active = played.before.active;
  edges = played.before.edges;
  rows = played.before.rows;
  totals = played.before.totals;
}

-- the image of the round before it
abbrev pub image_file : List ℕ → List ℕ → Played → File
image_file key image played = record {
  name = image_name image (played.round - 1);
  bytes = image_bytes key (start_before played);
}

-- the rounds but the first
abbrev pub later_rounds : List Played → List Played
later_rounds [] = []
later_rounds (first ∷ others) = others

-- one for each round that another one follows
abbrev pub images_of : List ℕ → List ℕ → Run → List File
images_of key image run = map (image_file key image) (later_rounds run.rounds)

-- what stands before the round of a start
abbrev pub standing_of : PlainStart → Standing
standing_of start = record {
  rows = start.rows;
  totals = start.totals;
  ruling = start.ruling;
  active = start.active;
  edges = start.edges;
}

-- what the run puts that goes on from a start, or that of the whole run where there is none
abbrev pub begun_text : Play → Option PlainStart → List ℕ
begun_text play None = play_text play
begun_text play (Some start) = text_of_run play.lines play.program
    (resumed_run (job_of play.machines play.draws play.program play.graph) start.round (standing_of start))
